use Rattle.std.proofs.Common.{◌≡◌, map, take}
use Rattle.rr_web.specs.NodeMetrics.{rows_of}
use Rattle.rr_web.proofs.node_metrics.archive_rows.Given as goal

-- the rows of the archives so far are there
abbrev pub invariant-loop-archive : goal.invariant-loop-archive
invariant-loop-archive l = l.rows.items ≡ map (rows_of l.schema.step) (take l.archive-index l.archives)
