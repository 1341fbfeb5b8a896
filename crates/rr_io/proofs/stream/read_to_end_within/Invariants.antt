use Rattle.std.proofs.Common.{◌≡◌, ◌≤◌}
use Rattle.rr_io.specs.Counted.{inner_of, failures_of, reads_of, ends_of, HasRisenBy}
use Rattle.rr_io.proofs.StreamLemmas.{IsAdded}
use Rattle.rr_io.proofs.stream.read_to_end_within.Given as goal

-- what was added so far was taken from the input, by one read at each turn
abbrev pub invariant-loop : goal.invariant-loop
invariant-loop g l = record {
  added : IsAdded (g.R.Read.remaining (inner_of l.initial.input)) (g.R.Read.remaining (inner_of l.input))
      l.initial.bytes.items l.bytes.items;
  count : failures_of l.initial.input ≤ failures_of l.input;
  reads : HasRisenBy l.counter (reads_of l.initial.input) (reads_of l.input);
  ends : ends_of l.input ≡ ends_of l.initial.input;
}
