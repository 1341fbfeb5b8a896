use Rattle.std.proofs.Common.{◌≡◌, map, take}
use Rattle.rr_web.specs.Family.{sample_view}
use Rattle.rr_web.specs.NodeMetrics.{archive_samples}
use Rattle.rr_web.proofs.samples.archive_samples.Given as goal

-- the samples of the archives so far are there
abbrev pub invariant-loop-archive : goal.invariant-loop-archive
invariant-loop-archive l = map sample_view l.samples.items ≡ archive_samples (take l.archive-index l.archives)
