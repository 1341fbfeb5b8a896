use Rattle.std.proofs.Common.{drop, map}
use Rattle.std.specs.List.{flat_map}
use Rattle.rr_journal.specs.Body.{packed_cells}
use Rattle.rr_recovery.specs.Joining.{group_cells}
use Rattle.rr_replication.proofs.CellLemmas.{AreLeft}
use Rattle.rr_replication.proofs.cells.push_groups.Given as goal

-- the cells that were added and those of the groups that are left are all
abbrev pub invariant-loop-group : goal.invariant-loop-group
invariant-loop-group l = AreLeft l.schema (map packed_cells (drop l.group-index l.groups)) l.initial.cells.items
    l.cells.items (flat_map group_cells (map packed_cells l.groups))
