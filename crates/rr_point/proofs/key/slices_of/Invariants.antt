use Rattle.std.proofs.Common.{◌≡◌, take}
use Rattle.rr_key.specs.Making.{tags_of}
use Rattle.rr_point.specs.Key.{tag_names}
use Rattle.rr_point.proofs.key.slices_of.Given as goal

abbrev pub invariant-loop-name : goal.invariant-loop-name
invariant-loop-name l = tags_of l.slices.items ≡ tag_names (take l.name-index l.names)
