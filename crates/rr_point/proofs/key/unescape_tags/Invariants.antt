use Rattle.std.proofs.Common.{◌≡◌, take}
use Rattle.rr_point.specs.Key.{tags_unescaped, tag_names}
use Rattle.rr_point.specs.Point.{tags_view}
use Rattle.rr_point.proofs.key.unescape_tags.Given as goal

abbrev pub invariant-loop-tag : goal.invariant-loop-tag
invariant-loop-tag l = tag_names l.names.items ≡ tags_unescaped (tags_view (take l.tag-index l.tags))
