use Rattle.std.proofs.Common.{◌≡◌, length}
use Rattle.rr_web.specs.Target.{behind_authority}
use Rattle.rr_web.proofs.target.behind_authority.Given as goal

-- what follows the authority of all follows that of what is left
abbrev pub invariant-loop-left : goal.invariant-loop-left
invariant-loop-left l = behind_authority l.text ≡ behind_authority l.left

abbrev pub decreases-loop-left : goal.decreases-loop-left
decreases-loop-left l = length l.left
