use Rattle.std.proofs.Common.{◌≡◌, map, length}
use Rattle.rr_journal.specs.Body.{packed_cells, groups_of}
use Rattle.rr_journal.proofs.GroupLemmas.{groups_left, with_groups}
use Rattle.rr_journal.proofs.grouping.copied_groups.Given as goal

-- the groups so far, and those that are left, are what the bytes are
abbrev pub invariant-loop-rest : goal.invariant-loop-rest
invariant-loop-rest l =
    with_groups (map packed_cells l.groups.items) (groups_left l.schema l.rest) ≡ groups_of l.schema l.bytes

abbrev pub decreases-loop-rest : goal.decreases-loop-rest
decreases-loop-rest l = length l.rest
