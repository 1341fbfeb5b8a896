use Rattle.std.proofs.Common.{◌≡◌, take}
use Rattle.rr_join.specs.Maps.{greatest}
use Rattle.rr_fetch.specs.Consolidation.{last_cmp}
use Rattle.rr_fetch.proofs.consolidation.last.Given as goal

abbrev pub invariant-loop-entry : goal.invariant-loop-entry
invariant-loop-entry l = l.last ≡ greatest last_cmp (take l.entry-index l.row)
