use Rattle.std.proofs.Common.{◌≡◌, length}
use Rattle.rr_line.specs.Part.{skip_spaces}
use Rattle.rr_line.proofs.part.skip_spaces.Given as goal

abbrev pub invariant-loop-left : goal.invariant-loop-left
invariant-loop-left l = skip_spaces l.left ≡ skip_spaces l.text

abbrev pub decreases-loop-left : goal.decreases-loop-left
decreases-loop-left l = length l.left
