use Rattle.std.proofs.Common.{◌≡◌, slice_get}
use Rattle.rr_replica.specs.Indexed.{entries_at}
use Rattle.rr_replica.specs.Series.{all_cells}
use Rattle.rr_replica.specs.SeriesMap.{entries_of}
use Rattle.rr_replica.specs.InMemory.{held_series}
use Rattle.rr_replica.proofs.WalkLemmas.{AreFew}
use Rattle.rr_replica.proofs.nth_cell.nth_cell.Given as goal

abbrev pub invariant-loop-key : goal.invariant-loop-key
invariant-loop-key g l = (slice_get (all_cells (held_series g.A.Cells.cells
    (entries_at l.key-iterator l.series.archives.items))) l.left
    ≡ slice_get (all_cells (held_series g.A.Cells.cells (entries_of l.series))) l.fn.number)
    × AreFew (entries_at l.key-iterator l.series.archives.items)
