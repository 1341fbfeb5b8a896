use Rattle.std.proofs.Common.{rules, ◌≡◌, sym, ap, ◌∙◌, to_z, of_z, w64}
use Rattle.std.specs.FinMap.{entries, entries_sorted}
use Rattle.rr_cells.specs.Listing.{owned_cell}
use Rattle.rr_delta.specs.Summaries.{cells_after, cells_from}
use Rattle.rr_delta.proofs.Walks.{walked_on, walked_to}
use Rattle.rr_changes.specs.Changes.{name_in}
use Rattle.rr_changes.proofs.walking.first_after.Goals as goal

pub returns-in-Some : goal.returns-in-Some
returns-in-Some g c =
    let es = entries c.args.replica.now.cells in
    let cell = c.in-Some.cell.now in
    let slot : to_z w64 (of_z w64 cell.slot) ≡ cell.slot = search rules in
    ap (λ o. cells_from o es) (rw slot at c.next_cell.ensures.listed)
    ∙ walked_on (owned_cell cell).0 es (entries_sorted c.args.replica.now.cells)
    ∙ ap (λ o. cells_after (name_in o) es) (sym c.in-Some.is)

pub returns-in-None : goal.returns-in-None
returns-in-None g c =
    let es = entries c.args.replica.now.cells in
    ap (λ o. cells_from o es) c.cell_at.ensures.listed ∙ walked_to 0 es (entries_sorted c.args.replica.now.cells)
    ∙ ap (λ o. cells_after (name_in o) es) (sym c.in-None.is)
