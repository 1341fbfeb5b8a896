-- The digits that were passed, and their number.
use Rattle.std.proofs.Common.{length}
use Rattle.rr_line.proofs.NumberLemmas.{HasPassed}
use Rattle.rr_line.proofs.integer.read_number.Given as goal

abbrev pub invariant-loop-digit : goal.invariant-loop-digit
invariant-loop-digit l = HasPassed l.text l.number l.left

abbrev pub decreases-loop-digit : goal.decreases-loop-digit
decreases-loop-digit l = length l.left
