use Rattle.std.proofs.Common.{◌≡◌, length}
use Rattle.rr_line.specs.Value.{after_quote}
use Rattle.rr_line.proofs.value.after_quote.Given as goal

abbrev pub invariant-loop-left : goal.invariant-loop-left
invariant-loop-left l = after_quote l.left ≡ after_quote l.text

abbrev pub decreases-loop-left : goal.decreases-loop-left
decreases-loop-left l = length l.left
