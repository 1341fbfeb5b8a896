-- What is still to be gathered, with the room that is left.
use Rattle.std.proofs.Common.{◌-◌, length}
use Rattle.rr_text.specs.declared.limits.TheConstants.{MAX_TAGS}
use Rattle.rr_line.proofs.GatheredLemmas.{GathersTags}
use Rattle.rr_line.proofs.tags.gather_tags.Given as goal

abbrev pub invariant-loop-text : goal.invariant-loop-text
invariant-loop-text l = GathersTags l.tags.items l.left l.text

abbrev pub decreases-loop-text : goal.decreases-loop-text
decreases-loop-text l = MAX_TAGS - length l.tags.items
