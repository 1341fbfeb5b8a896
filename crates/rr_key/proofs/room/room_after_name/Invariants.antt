use Rattle.std.proofs.Common.{◌≡◌, ◌+◌, length, drop}
use Rattle.rr_key.specs.Unit.{escape}
use Rattle.rr_key.proofs.room.room_after_name.Given as goal

-- the bytes so far have taken their room
abbrev pub invariant-loop-byte : goal.invariant-loop-byte
invariant-loop-byte l =
    l.left + length (escape l.class l.name) ≡ l.room + length (escape l.class (drop l.byte-index l.name))
