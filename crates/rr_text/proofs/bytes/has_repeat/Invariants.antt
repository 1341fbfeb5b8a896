use Rattle.std.proofs.Common.{◌≡◌, map, length}
use Rattle.rr_text.specs.Bytes.{has_repeat}
use Rattle.rr_text.proofs.bytes.has_repeat.Given as goal

abbrev pub invariant-loop-left : goal.invariant-loop-left
invariant-loop-left g l = has_repeat (map g.T.Keyed.key_of l.left) ≡ has_repeat (map g.T.Keyed.key_of l.entries)

abbrev pub decreases-loop-left : goal.decreases-loop-left
decreases-loop-left g l = length l.left
