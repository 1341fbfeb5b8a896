use Rattle.std.proofs.Common.{◌≡◌, ◌++◌, drop}
use Rattle.std.specs.List.{flat_map}
use Rattle.rr_key.specs.Making.{tags_of}
use Rattle.rr_key.specs.Series.{tag_text}
use Rattle.rr_key.proofs.writing.push_tags.Given as goal

abbrev pub invariant-loop-tag : goal.invariant-loop-tag
invariant-loop-tag l =
    l.text.items ++ flat_map tag_text (tags_of (drop l.tag-index l.tags)) ≡ l.fn.text.items
    ++ flat_map tag_text (tags_of l.tags)
