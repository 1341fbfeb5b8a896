use Rattle.std.proofs.Common.{◌≡◌, map, take}
use Rattle.std.specs.List.{flat_map}
use Rattle.rr_journal.specs.Body.{group_text, packed_cells}
use Rattle.rr_journal.proofs.encoding.groups_bytes.Given as goal

-- the bytes are those of the groups so far
abbrev pub invariant-loop-group : goal.invariant-loop-group
invariant-loop-group l = l.bytes.items ≡ flat_map group_text (map packed_cells (take l.group-index l.groups))
