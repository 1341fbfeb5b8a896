use Rattle.std.proofs.Common.{◌≡◌, [], drop}
use Rattle.rr_key.specs.Reading.{rises}
use Rattle.rr_point.specs.Prefix.{tags_view}
use Rattle.rr_line.proofs.prefix.rises.Given as goal

abbrev pub invariant-loop-tag : goal.invariant-loop-tag
invariant-loop-tag l = rises l.before (tags_view (drop l.tag-index l.tags)) ≡ rises [] (tags_view l.tags)
