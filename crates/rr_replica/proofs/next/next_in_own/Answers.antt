use Rattle.std.proofs.Common.{rules, ◌≡◌, Some, ap, sym, ◌∙◌, to_z, of_z, w64}
use Rattle.std.specs.Option.{option_map}
use Rattle.rr_archive.specs.CellSlots.{cell_slot}
use Rattle.rr_archive.specs.Cells.{cell_of}
use Rattle.rr_archive.specs.Cells as held
use Rattle.rr_cells.specs.CellBounds.{NamedCell}
use Rattle.rr_cells.specs.Listing.{cell_name, next_cell}
use Rattle.rr_replica.specs.InMemory.{held_series}
use Rattle.rr_replica.specs.Series.{cells_of}
use Rattle.rr_replica.specs.SeriesMap.{entries_of}
use Rattle.rr_replica.proofs.next.next_in_own.Goals as goal

pub returns : goal.returns
returns g c =
    let name = c.args.name.now in
    let own = c.in_ok-own.own in
    let cells = cells_of (held_series g.A.Cells.cells (entries_of c.args.series.now)) in
    let back : to_z w64 (of_z w64 name.slot) ≡ name.slot = search rules in
    let next : option_map cell_of (held.next_cell (g.A.Cells.cells own.archive.now)
    (cell_slot name.slot name.origin)) ≡ Some c.in_ok-cell.cell = sym (rw back at c.next_cell.ensures)
    ∙ c.in_ok-cell.was in
    let key : name.key.now ≡ own.key.now = sym c.in_ok-own.ensures.key in
    let number : name.archive ≡ own.number = sym c.in_ok-own.ensures.number in
    (λ i. next_cell cells (cell_name (key i) (number i) name.slot name.origin))
    ∙ c.in_ok-own.ensures.next name.slot name.origin c.in_ok-cell.cell next
    ∙ ap (λ (x : NamedCell). Some x) (sym c.named.ensures)
