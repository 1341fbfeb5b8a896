use Rattle.std.proofs.Common.{◌≤◌}
use Rattle.rr_io.specs.Counted.{failures_of, inner_of}
use Rattle.rr_recovery.proofs.OriginLemmas.{FindsTheSame}
use Rattle.rr_recovery.proofs.ReplayLemmas.{SoFar}
use Rattle.rr_recovery.proofs.origins.last_origin.Given as goal

-- the last origin of the records that are left now is that of all
abbrev pub invariant-loop : goal.invariant-loop
invariant-loop g l = record {
  found : SoFar l.initial.place l.place (g.R.Read.remaining (inner_of l.initial.input))
      (g.R.Read.remaining (inner_of l.input)) (FindsTheSame l.origin);
  failures : failures_of l.initial.input ≤ failures_of l.input;
}
