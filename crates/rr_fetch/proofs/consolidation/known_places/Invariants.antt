use Rattle.std.proofs.Common.{◌≡◌, take}
use Rattle.rr_fetch.specs.Consolidation.{mask_of_entries}
use Rattle.rr_fetch.proofs.consolidation.known_places.Given as goal

abbrev pub invariant-loop-entry : goal.invariant-loop-entry
invariant-loop-entry l = l.mask ≡ mask_of_entries (take l.entry-index l.row)
