use Rattle.std.proofs.Common.{drop, map}
use Rattle.std.specs.List.{flat_map}
use Rattle.rr_journal.specs.Body.{packed_cells}
use Rattle.rr_recovery.specs.Joining.{group_cells}
use Rattle.rr_recovery.specs.Taking.{recovery}
use Rattle.rr_recovery.proofs.TakingLemmas.{AreLeft}
use Rattle.rr_recovery.proofs.taking.take_groups.Given as goal

-- to take the groups that are left now is to take all
abbrev pub invariant-loop-group : goal.invariant-loop-group
invariant-loop-group g l = AreLeft l.initial.replica.schema (map packed_cells (drop l.group-index l.groups))
    (recovery l.initial.replica l.initial.found) (recovery l.replica l.found)
    (flat_map group_cells (map packed_cells l.groups))
