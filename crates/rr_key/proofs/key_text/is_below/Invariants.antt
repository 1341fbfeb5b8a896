use Rattle.std.proofs.Common.{◌≡◌, length}
use Rattle.std.specs.Ordering.{nat_cmp, is_lt}
use Rattle.std.specs.Cmp.Lexicographic.{slice_cmp}
use Rattle.rr_key.specs.declared.class.Class.TheVariants.{Other}
use Rattle.rr_key.specs.Unit.{unescape}
use Rattle.rr_key.proofs.key_text.is_below.Given as goal

abbrev pub invariant-loop-byte : goal.invariant-loop-byte
invariant-loop-byte l =
    is_lt (slice_cmp nat_cmp (unescape Other l.left) (unescape Other l.right))
    ≡ is_lt (slice_cmp nat_cmp (unescape Other l.fn.left) (unescape Other l.fn.right))

abbrev pub decreases-loop-byte : goal.decreases-loop-byte
decreases-loop-byte l = length l.left
