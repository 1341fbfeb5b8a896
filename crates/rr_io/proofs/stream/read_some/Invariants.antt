use Rattle.std.proofs.Common.{◌<◌, ◌≤◌}
use Rattle.std.specs.Io.KnownBytes.{Keeps}
use Rattle.rr_io.specs.Counted.{inner_of, failures_of, HasRisen}
use Rattle.rr_io.proofs.stream.read_some.Given as goal

-- the calls so far were interrupted, so they took nothing and count as failed
abbrev pub invariant-loop : goal.invariant-loop
invariant-loop g l = record {
  kept : Keeps (g.R.Read.remaining (inner_of l.initial.input)) (g.R.Read.remaining (inner_of l.input));
  count : failures_of l.initial.input ≤ failures_of l.input;
  risen : 0 < l.counter → HasRisen (failures_of l.initial.input) (failures_of l.input);
}
