use Rattle.std.proofs.Common.{rules, ◌≡◌, [], map, take, sym, ap, ◌∙◌, subst, to_z, of_z, w64, Some, IfOk}
use Rattle.std.specs.Option.{option_map}
use Rattle.std.specs.FinMap.{entries, entries_sorted}
use Rattle.rr_cells.specs.Listing.{seen_cell, first_after}
use Rattle.rr_delta.specs.Names.{IsNameOf, name_in, named_version, owned_name}
use Rattle.rr_delta.specs.Summaries.{cells_after, cells_from}
use Rattle.rr_replica.specs.ReplicaWithRoom.{replica_state}
use Rattle.rr_delta.proofs.HeldLemmas.{all_held, all_taken, after_held, named_all, names_held}
use Rattle.rr_delta.proofs.SummaryLemmas.{none_taken, names_ascend}
use Rattle.rr_delta.proofs.Walks.{walked_on, sorted_after, sorted_take, sorted_versions}
use Rattle.rr_delta.proofs.listing.summary_after.Goals as goal

pub returns-in-Some-next_cell : goal.returns-in-Some-next_cell
returns-in-Some-next_cell g c =
    let m = c.args.replica.now.cells in
    let name = c.in-Some.name.now in
    let n = (owned_name name).0 in
    let slot : to_z w64 (of_z w64 name.slot) ≡ name.slot = search rules in
    let next : option_map seen_cell c.next_cell.result ≡ first_after n (entries m) =
    rw slot at c.next_cell.ensures.listed in
    let at : Some (seen_cell c.in-Some-next_cell.first) ≡ first_after n (entries m) =
    ap (option_map seen_cell) (sym c.in-Some-next_cell.is) ∙ next in
    let after : cells_from (Some (seen_cell c.in-Some-next_cell.first)) (entries m)
    ≡ cells_after (name_in c.args.after) (entries m) =
    ap (λ o. cells_from o (entries m)) at ∙ walked_on n (entries m) (entries_sorted m)
    ∙ ap (λ o. cells_after (name_in o) (entries m)) (sym c.in-Some.is) in
    let listed = subst (λ es. IfOk c.listed_from.result (λ names. map owned_name names.items
    ≡ take c.args.count (map named_version es))) after c.listed_from.ensures in
    let h = replica_state c.args.replica.now in
    let es = cells_after (name_in c.args.after) (entries h.cells) in
    record {
      listed = listed;
      ascending = names_ascend c.listed_from.result (take c.args.count (map named_version es))
          (sorted_take c.args.count (map named_version es)
          (sorted_versions es (sorted_after (name_in c.args.after) (entries m) (entries_sorted m))))
          listed;
      of_schema = names_held h.schema c.listed_from.result (take c.args.count (map named_version es))
          (all_taken (IsNameOf h.schema) c.args.count (map named_version es)
          (named_all h.schema es (after_held h.schema (name_in c.args.after) (entries h.cells)
          (all_held h c.schema-schema.ensures.holds))))
          listed;
    }

pub returns-in-None : goal.returns-in-None
returns-in-None g c =
    let m = c.args.replica.now.cells in
    let name = c.in-Some.name.now in
    let n = (owned_name name).0 in
    let slot : to_z w64 (of_z w64 name.slot) ≡ name.slot = search rules in
    let next : option_map seen_cell c.next_cell.result ≡ first_after n (entries m) =
    rw slot at c.next_cell.ensures.listed in
    let none : cells_after (name_in c.args.after) (entries m) ≡ [] =
    ap (λ o. cells_after (name_in o) (entries m)) c.in-Some.is ∙ sym (walked_on n (entries m) (entries_sorted m))
    ∙ ap (λ o. cells_from o (entries m)) (sym next ∙ ap (option_map seen_cell) c.in-None.is) in
    record {
      listed = ap (map owned_name) c.new.ensures.items ∙ sym (none_taken c.args.count
          (map named_version (cells_after (name_in c.args.after) (entries m))) (ap (map named_version) none));
      ascending = search rules;
      of_schema = search rules;
    }
