use Rattle.std.proofs.Common.{take}
use Rattle.rr_changes.proofs.NumberedLemmas.{AreSoFar}
use Rattle.rr_changes.proofs.by_number.series_numbered.Given as goal

-- the series of the numbers so far
abbrev pub invariant-loop-number : goal.invariant-loop-number
invariant-loop-number g l = AreSoFar l.replica.keys l.times (take l.number-index l.changed) l.list.items
