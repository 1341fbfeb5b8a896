use Rattle.std.proofs.Common.{◌≡◌, ◌+◌, length}
use Rattle.rr_replica.specs.Indexed.{entries_at}
use Rattle.rr_cells.specs.Listing.{at_most_usize}
use Rattle.rr_replica.specs.Series.{all_cells}
use Rattle.rr_replica.specs.SeriesMap.{entries_of}
use Rattle.rr_replica.specs.InMemory.{held_series}
use Rattle.rr_replica.proofs.nth_cell.count_cells.Given as goal

abbrev pub invariant-loop-index : goal.invariant-loop-index
invariant-loop-index g l = (at_most_usize (l.count
    + length (all_cells (held_series g.A.Cells.cells (entries_at l.index-iterator l.series.archives.items))))
    ≡ at_most_usize (length (all_cells (held_series g.A.Cells.cells (entries_of l.series)))))
    × (l.count ≡ at_most_usize l.count)
