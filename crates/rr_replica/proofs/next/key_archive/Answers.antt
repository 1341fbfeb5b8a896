use Rattle.std.proofs.Common.{rules, ◌≡◌, ◌<◌, length, Some, refl, subst, ap, sym, ◌∙◌}
use Rattle.rr_archive.specs.CellSlots.{cell_slot}
use Rattle.rr_cells.specs.Listing.{cell_name, first_after}
use Rattle.rr_replica.specs.InMemory.{archives_of}
use Rattle.rr_replica.specs.SeriesMap.{entries_of}
use Rattle.rr_replica.proofs.Counted.{entries-held_series}
use Rattle.rr_replica.proofs.NextCell.{own_found}
use Rattle.rr_replica.proofs.IndexedLemmas.{entries_ordered}
use Rattle.rr_replica.proofs.KnownKey.{first_of_own}
use Rattle.rr_replica.proofs.next.key_archive.Goals as goal

pub returns-clause-next : goal.returns-clause-next
returns-clause-next g c =
    let m = c.args.series.now in
    let ordered = entries_ordered m.indexed in
    let key = c.in_ok-key.key.now in
    let number = c.args.number in
    let archives = c.in_ok-key.archives.now in
    let archive = c.index.result.now in
    let within : number < length archives.items = search rules in
    let there = subst (λ k. archives_of (entries_of m) k ≡ Some archives) (sym c.in_ok-key.ensures.key)
    c.in_ok-key.ensures.archives in
    λ slot origin cell next.
    ap (first_after (cell_name key number slot origin)) (entries-held_series g.A.Cells.cells (entries_of m) ordered)
    ∙ first_of_own key number (cell_slot slot origin) g.A.Cells.cells _ (entries_of m) archives ordered there
    (own_found key number (cell_slot slot origin) g.A.Cells.cells archives.items key refl archive cell within
    c.index.ensures (sym next))
