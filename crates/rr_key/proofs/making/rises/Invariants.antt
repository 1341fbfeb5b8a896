use Rattle.std.proofs.Common.{◌≡◌, [], drop}
use Rattle.rr_key.specs.Making.{tags_of}
use Rattle.rr_key.specs.Reading.{rises}
use Rattle.rr_key.proofs.making.rises.Given as goal

abbrev pub invariant-loop-tag : goal.invariant-loop-tag
invariant-loop-tag l =
    rises l.before (tags_of (drop l.tag-index l.tags)) ≡ rises [] (tags_of l.tags)
