use Rattle.rr_replica.proofs.Counted.{IsLeft}
use Rattle.rr_replica.proofs.nth_cell.nth_in.Given as goal

abbrev pub invariant-loop-i : goal.invariant-loop-i
invariant-loop-i g l = IsLeft g.A.Cells.cells l.key l.archives l.fn.number l.i l.left
