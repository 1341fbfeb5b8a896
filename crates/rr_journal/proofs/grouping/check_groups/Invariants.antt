use Rattle.std.proofs.Common.{◌≡◌, List, length}
use Rattle.rr_journal.specs.Body.{PackedCells, groups_of}
use Rattle.rr_journal.proofs.GroupLemmas.{groups_left, with_groups}
use Rattle.rr_journal.proofs.grouping.check_groups.Given as goal

-- some groups, and those that are left, are what the bytes are
abbrev pub invariant-loop-rest : goal.invariant-loop-rest
invariant-loop-rest l =
    (gs : List PackedCells) × (with_groups gs (groups_left l.schema l.rest) ≡ groups_of l.schema l.bytes)

abbrev pub decreases-loop-rest : goal.decreases-loop-rest
decreases-loop-rest l = length l.rest
