use Rattle.std.proofs.Common.{◌≡◌, ◌++◌, take}
use Rattle.std.specs.List.{flat_map}
use Rattle.rr_web.specs.Reply.{inside}
use Rattle.rr_web.proofs.writes.push_inside.Given as goal

-- what the lines so far are inside a text of JSON was added
abbrev pub invariant-loop-byte : goal.invariant-loop-byte
invariant-loop-byte l = l.text.items ≡ l.initial.text.items ++ flat_map inside (take l.byte-index l.lines)
