use Rattle.std.proofs.Common.{length}
use Rattle.rr_journal.specs.Body.{packed_cells}
use Rattle.rr_recovery.specs.Joining.{cells_read, group_cells}
use Rattle.rr_replication.proofs.CellLemmas.{IsLeft}
use Rattle.rr_replication.proofs.cells.push_group.Given as goal

-- the cells that were added and those that are left are all
abbrev pub invariant-loop-entry : goal.invariant-loop-entry
invariant-loop-entry l = IsLeft l.schema l.group.key l.group.archive l.packed.cells l.initial.cells.items
    l.cells.items (group_cells (packed_cells l.group))

abbrev pub decreases-loop-entry : goal.decreases-loop-entry
decreases-loop-entry l = length (cells_read l.packed.cells)
