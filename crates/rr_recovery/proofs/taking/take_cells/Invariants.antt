use Rattle.std.proofs.Common.{◌≡◌, Some, length, slice_get}
use Rattle.rr_journal.specs.Body.{packed_cells}
use Rattle.rr_recovery.specs.Joining.{cells_read, group_cells}
use Rattle.rr_recovery.specs.Taking.{recovery}
use Rattle.rr_recovery.proofs.TakingLemmas.{IsLeft}
use Rattle.rr_recovery.proofs.taking.take_cells.Given as goal

-- to take the cells that are left now is to take all, and the series has the group's key
abbrev pub invariant-loop-cell : goal.invariant-loop-cell
invariant-loop-cell g l =
    IsLeft l.initial.replica.schema l.group.key l.group.archive l.cells.cells
    (recovery l.initial.replica l.initial.found) (recovery l.replica l.found) (group_cells (packed_cells l.group))
    × (slice_get l.replica.keys l.series ≡ Some l.group.key)

abbrev pub decreases-loop-cell : goal.decreases-loop-cell
decreases-loop-cell g l = length (cells_read l.cells.cells)
