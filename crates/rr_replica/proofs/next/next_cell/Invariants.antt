use Rattle.rr_archive.specs.CellSlots.{cell_slot}
use Rattle.rr_replica.specs.Indexed.{entries_at}
use Rattle.rr_replica.specs.SeriesMap.{entries_of}
use Rattle.rr_replica.proofs.NextCell.{LeftFrom}
use Rattle.rr_replica.proofs.WalkLemmas.{AreFew, AreFrom}
use Rattle.rr_replica.proofs.next.next_cell.Given as goal

abbrev pub invariant-loop-key : goal.invariant-loop-key
invariant-loop-key g l =
    LeftFrom l.name.key.now l.name.archive (cell_slot l.name.slot l.name.origin) g.A.Cells.cells (entries_of l.series)
    (entries_at l.key-iterator l.series.archives.items)
    × AreFew (entries_at l.key-iterator l.series.archives.items) × AreFrom l.name.key.now l.key-iterator
