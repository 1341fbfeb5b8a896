use Rattle.std.proofs.Common.{◌≡◌, map, take}
use Rattle.rr_fetch.proofs.answering.copy_entries.Given as goal

-- the entries so far were copied
abbrev pub invariant-loop-entry : goal.invariant-loop-entry
invariant-loop-entry l = l.entries.items ≡ map (λ c. c.1) (take l.entry-index l.cells)
