use Rattle.std.proofs.Common.{◌≡◌}
use Rattle.rr_replica.proofs.NextCell.{first_of}
use Rattle.rr_replica.proofs.next.first_from.Given as goal

abbrev pub invariant-loop-i : goal.invariant-loop-i
invariant-loop-i g l = first_of l.key g.A.Cells.cells l.archives l.i
    ≡ first_of l.key g.A.Cells.cells l.archives l.fn.first
