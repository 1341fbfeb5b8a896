-- What is still to be gathered, with the room that is left.
use Rattle.std.proofs.Common.{◌-◌, length}
use Rattle.rr_text.specs.declared.limits.TheConstants.{MAX_FIELDS}
use Rattle.rr_line.proofs.GatheredLemmas.{GathersFields}
use Rattle.rr_line.proofs.fields.gather_fields.Given as goal

abbrev pub invariant-loop-read : goal.invariant-loop-read
invariant-loop-read l = GathersFields l.fields.items l.left l.text

abbrev pub decreases-loop-read : goal.decreases-loop-read
decreases-loop-read l = MAX_FIELDS - length l.fields.items
