use Rattle.std.proofs.Common.{rules, ◌≡◌, [], map, take, drop, sym, ap, ◌∙◌, subst, Some, IfOk}
use Rattle.std.specs.Option.{option_map}
use Rattle.std.specs.FinMap.{entries, entries_sorted}
use Rattle.std.specs.List.{drop-map}
use Rattle.rr_cells.specs.Listing.{seen_cell}
use Rattle.rr_delta.specs.Names.{IsNameOf, named_version, owned_name, versions_of}
use Rattle.rr_delta.specs.Summaries.{cells_from}
use Rattle.rr_replica.specs.ReplicaWithRoom.{replica_state}
use Rattle.rr_delta.proofs.HeldLemmas.{all_held, all_taken, all_dropped, named_all, names_held}
use Rattle.rr_delta.proofs.SummaryLemmas.{none_taken, names_ascend}
use Rattle.rr_delta.proofs.Walks.{walked_to, sorted_drop, sorted_take, sorted_versions}
use Rattle.rr_delta.proofs.listing.summary.Goals as goal

pub returns-in-Some : goal.returns-in-Some
returns-in-Some g c =
    let m = c.args.replica.now.cells in
    let at = ap (option_map seen_cell) (sym c.in-Some.is) ∙ c.cell_at.ensures.listed in
    let from : map named_version (cells_from (Some (seen_cell c.in-Some.first)) (entries m))
    ≡ drop c.args.from (versions_of m) = ap (λ o. map named_version (cells_from o (entries m))) at
    ∙ ap (map named_version) (walked_to c.args.from (entries m) (entries_sorted m))
    ∙ sym (drop-map named_version c.args.from (entries m)) in
    let listed = subst (λ vs. IfOk c.listed_from.result (λ names. map owned_name names.items
    ≡ take c.args.count vs)) from c.listed_from.ensures in
    let h = replica_state c.args.replica.now in
    let vs = versions_of h.cells in
    let all = named_all h.schema (entries h.cells) (all_held h c.schema-schema.ensures.holds) in
    record {
      listed = listed;
      ascending = names_ascend c.listed_from.result (take c.args.count (drop c.args.from (versions_of m)))
          (sorted_take c.args.count (drop c.args.from (versions_of m))
          (sorted_drop c.args.from (versions_of m) (sorted_versions (entries m) (entries_sorted m))))
          listed;
      of_schema = names_held h.schema c.listed_from.result (take c.args.count (drop c.args.from vs))
          (all_taken (IsNameOf h.schema) c.args.count (drop c.args.from vs)
          (all_dropped (IsNameOf h.schema) c.args.from vs all)) listed;
    }

pub returns-in-None : goal.returns-in-None
returns-in-None g c =
    let m = c.args.replica.now.cells in
    let at = ap (option_map seen_cell) (sym c.in-None.is) ∙ c.cell_at.ensures.listed in
    let past : drop c.args.from (versions_of m) ≡ [] = drop-map named_version c.args.from (entries m)
    ∙ ap (map named_version) (sym (walked_to c.args.from (entries m) (entries_sorted m)))
    ∙ ap (λ o. map named_version (cells_from o (entries m))) (sym at) in
    record {
      listed = ap (map owned_name) c.new.ensures.items
          ∙ sym (none_taken c.args.count (drop c.args.from (versions_of m)) past);
      ascending = search rules;
      of_schema = search rules;
    }
