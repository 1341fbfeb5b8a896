use Rattle.std.proofs.Common.{◌≡◌, ◌++◌, drop}
use Rattle.rr_key.specs.Unit.{escape}
use Rattle.rr_key.proofs.escapes.push_escaped.Given as goal

abbrev pub invariant-loop-byte : goal.invariant-loop-byte
invariant-loop-byte l =
    l.text.items ++ escape l.class (drop l.byte-index l.name) ≡ l.fn.text.items ++ escape l.class l.name
