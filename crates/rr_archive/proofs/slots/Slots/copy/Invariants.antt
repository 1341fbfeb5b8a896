use Rattle.rr_archive.proofs.Copying.{Copied}
use Rattle.rr_archive.proofs.slots.Slots.copy.Given as goal

abbrev pub invariant-loop-slot : goal.invariant-loop-slot
invariant-loop-slot l = Copied l.self.rows.entries l.slot-iterator l.rows.entries
