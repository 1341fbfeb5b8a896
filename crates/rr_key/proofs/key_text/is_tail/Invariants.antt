use Rattle.std.proofs.Common.{◌≤◌, ◌↔◌, [], length}
use Rattle.rr_key.specs.declared.class.Class.TheVariants.{Other}
use Rattle.rr_key.specs.Reading.{IsTail}
use Rattle.rr_key.specs.Unit.{unescape}
use Rattle.rr_key.proofs.key_text.is_tail.Given as goal

abbrev pub invariant-loop-tag : goal.invariant-loop-tag
invariant-loop-tag l = record {
  few : l.count ≤ 32;
  same : IsTail (unescape Other l.before) l.count l.left ↔ IsTail [] 0 l.tail;
}

abbrev pub decreases-loop-tag : goal.decreases-loop-tag
decreases-loop-tag l = length l.left
