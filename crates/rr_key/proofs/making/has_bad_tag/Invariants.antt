use Rattle.std.proofs.Common.{◌≡◌, drop}
use Rattle.rr_key.specs.Making.{any_tag, tags_of}
use Rattle.rr_key.specs.Name.{is_bad}
use Rattle.rr_key.proofs.making.has_bad_tag.Given as goal

abbrev pub invariant-loop-tag : goal.invariant-loop-tag
invariant-loop-tag l =
    any_tag is_bad (tags_of (drop l.tag-index l.tags)) ≡ any_tag is_bad (tags_of l.tags)
