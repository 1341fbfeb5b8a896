use Rattle.rr_replica.proofs.CopyingLemmas.{AreCopied}
use Rattle.rr_replica.proofs.copies.copy_series.Given as goal

abbrev pub invariant-loop-i : goal.invariant-loop-i
invariant-loop-i g l = AreCopied g.A.Cells.cells g.A.Cells.row_limit l.series.keys.items l.series.archives.items
    l.copies.keys.items l.copies.indices.entries l.copies.archives.items l.i
