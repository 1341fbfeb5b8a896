use Rattle.std.proofs.Common.{rules, ◌≡◌, ◌+◌, ◌-◌, [], ◌∷◌, ◌++◌, map, sym, ap, ◌∙◌, to_z, of_z, w64}
use Rattle.std.specs.List.{filter}
use Rattle.std.specs.Option.{option_map}
use Rattle.std.specs.FinMap.{entries, entries_sorted}
use Rattle.std.proofs.lemmas.List.{map_push}
use Rattle.rr_cells.specs.Listing.{seen_cell}
use Rattle.rr_replica.proofs.NextCell.{is_past}
use Rattle.rr_delta.specs.Names.{named_version, owned_name}
use Rattle.rr_delta.specs.Summaries.{cells_from}
use Rattle.rr_delta.proofs.SummaryLemmas.{listed_so_far, one_listed}
use Rattle.rr_delta.proofs.Walks.{walked_on}
use Rattle.rr_delta.proofs.listing.listed_from.Goals as goal

pub loop-preserved : goal.loop-preserved
loop-preserved g c =
    let es = entries c.args.replica.now.cells in
    let cell = c.in-Some.cell in
    let e = seen_cell cell in
    let name = c.in_ok-of.field-0 in
    let prefix = map owned_name c.loop.names.items in
    let slot : to_z w64 (of_z w64 cell.slot) ≡ cell.slot = search rules in
    let named : owned_name name ≡ named_version e = search rules in
    let items : c.push.new.self.items ≡ c.loop.names.items ++ name ∷ [] = search rules in
    let left = ap (λ o. cells_from o es) (rw slot at (rw c.loop.invariant.walk at c.next_cell-next.ensures.next).listed)
    ∙ walked_on e.0 es (entries_sorted c.args.replica.now.cells) in
    record {
      names =
          (λ i. listed_so_far ((ap (map owned_name) items ∙ map_push owned_name c.loop.names.items name
          ∙ ap (λ v. prefix ++ v ∷ []) named) i) (c.args.count - (c.loop.counter + 1)) (left i))
          ∙ one_listed prefix c.args.count c.loop.counter e (filter (is_past e.0) es) c.loop-test.true
          ∙ ap (λ o. listed_so_far prefix (c.args.count - c.loop.counter) (cells_from (option_map seen_cell o) es))
          (sym c.in-Some.is)
          ∙ c.loop.invariant.names;
      walk = c.next_cell-next.ensures.same ∙ c.loop.invariant.walk;
    }
