use Rattle.rr_replica.proofs.Each.{ArePut}
use Rattle.rr_replica.proofs.archives.store_in.Given as goal

abbrev pub invariant-loop-i : goal.invariant-loop-i
invariant-loop-i g l = ArePut g.A.Cells.cells g.A.Cells.row_limit l.schema l.sample l.i l.initial.archives.items
    l.archives.items
