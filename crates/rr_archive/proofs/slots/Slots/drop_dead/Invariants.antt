use Rattle.std.proofs.Common.{length}
use Rattle.rr_archive.proofs.Leaving.{LeftOver}
use Rattle.rr_archive.proofs.slots.Slots.drop_dead.Given as goal

abbrev pub invariant-loop-self : goal.invariant-loop-self
invariant-loop-self l = LeftOver l.rows l.newest l.initial.self.rows.entries l.self.rows.entries l.left

abbrev pub decreases-loop-self : goal.decreases-loop-self
decreases-loop-self l = length l.self.rows.entries
