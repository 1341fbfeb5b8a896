use Rattle.std.proofs.Common.{◌≡◌, ◌++◌, length}
use Rattle.rr_key.specs.Unit.{unescape}
use Rattle.rr_key.proofs.escapes.unescape.Given as goal

abbrev pub invariant-loop-byte : goal.invariant-loop-byte
invariant-loop-byte l = unescape l.class l.raw ≡ l.name.items ++ unescape l.class l.left

abbrev pub decreases-loop-byte : goal.decreases-loop-byte
decreases-loop-byte l = length l.left
