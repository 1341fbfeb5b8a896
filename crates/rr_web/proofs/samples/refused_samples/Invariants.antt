use Rattle.std.proofs.Common.{◌≡◌, map, take}
use Rattle.rr_web.specs.Family.{sample_view}
use Rattle.rr_web.specs.NodeMetrics.{refused_samples}
use Rattle.rr_web.proofs.samples.refused_samples.Given as goal

-- the samples of the faults so far are there
abbrev pub invariant-loop-lines : goal.invariant-loop-lines
invariant-loop-lines l = map sample_view l.samples.items ≡ refused_samples (take l.lines-index l.refused)
