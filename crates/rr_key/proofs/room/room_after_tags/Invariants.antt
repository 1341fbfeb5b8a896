use Rattle.std.proofs.Common.{◌≡◌, ◌+◌, length, drop}
use Rattle.std.specs.List.{flat_map}
use Rattle.rr_key.specs.Making.{tags_of}
use Rattle.rr_key.specs.Series.{tag_text}
use Rattle.rr_key.proofs.room.room_after_tags.Given as goal

-- the tags so far have taken their room
abbrev pub invariant-loop-tag : goal.invariant-loop-tag
invariant-loop-tag l =
    l.left + length (flat_map tag_text (tags_of l.tags)) ≡ l.room
    + length (flat_map tag_text (tags_of (drop l.tag-index l.tags)))
