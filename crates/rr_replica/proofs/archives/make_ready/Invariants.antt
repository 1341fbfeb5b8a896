use Rattle.rr_replica.proofs.Each.{AreReadied}
use Rattle.std.proofs.Common.{◌≤◌}
use Rattle.rr_replica.proofs.archives.make_ready.Given as goal

-- those so far have room, and all others are as they were
abbrev pub invariant-loop-i : goal.invariant-loop-i
invariant-loop-i g l = (l.fn.first ≤ l.i) × AreReadied g.A.Cells.cells g.A.Cells.row_limit g.A.Cells.is_ready l.schema
    l.fn.time l.origin l.fn.first l.i l.initial.archives.items l.archives.items
