use Rattle.std.proofs.Common.{◌<◌, ◌≤◌}
use Rattle.std.specs.Io.KnownBytes.{Keeps}
use Rattle.rr_io.specs.Counted.{inner_of, failures_of, HasRisen}
use Rattle.rr_io.proofs.stream.flush.Given as goal

-- the calls so far were interrupted, so they wrote nothing and count as failed
abbrev pub invariant-loop : goal.invariant-loop
invariant-loop g l = record {
  kept : Keeps (g.W.Write.contents (inner_of l.initial.output)) (g.W.Write.contents (inner_of l.output));
  count : failures_of l.initial.output ≤ failures_of l.output;
  risen : 0 < l.counter → HasRisen (failures_of l.initial.output) (failures_of l.output);
}
