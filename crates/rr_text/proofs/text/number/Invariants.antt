use Rattle.std.proofs.Common.{◌≡◌, ◌<◌, ◌^◌, length}
use Rattle.rr_text.specs.Digits.{with_digits}
use Rattle.rr_text.proofs.text.number.Given as goal

abbrev pub invariant-loop-left : goal.invariant-loop-left
invariant-loop-left l = (with_digits l.number l.left ≡ with_digits 0 l.text) × (l.number < 2 ^ 64)

abbrev pub decreases-loop-left : goal.decreases-loop-left
decreases-loop-left l = length l.left
