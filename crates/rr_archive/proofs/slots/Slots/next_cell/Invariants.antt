use Rattle.rr_archive.proofs.NextCell.{LeftFrom}
use Rattle.rr_archive.proofs.slots.Slots.next_cell.Given as goal

abbrev pub invariant-loop-at : goal.invariant-loop-at
invariant-loop-at l = LeftFrom l.fn.slot l.fn.origin l.self.rows.entries l.at-iterator
