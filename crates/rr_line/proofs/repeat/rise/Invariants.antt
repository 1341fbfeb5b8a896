use Rattle.std.proofs.Common.{◌≡◌, map, length}
use Rattle.rr_line.specs.Gathering.{rise}
use Rattle.rr_line.proofs.repeat.rise.Given as goal

abbrev pub invariant-loop-left : goal.invariant-loop-left
invariant-loop-left l = rise (map (λ key. key.now) l.left) ≡ rise (map (λ key. key.now) l.keys)

abbrev pub decreases-loop-left : goal.decreases-loop-left
decreases-loop-left l = length l.left
