use Rattle.std.proofs.Common.{◌≡◌, ◌+◌, ◌≤◌, []}
use Rattle.std.specs.Io.KnownBytes.{Consumes}
use Rattle.rr_io.specs.Counted.{inner_of, ends_of, failures_of, reads_of, HasRisenBy}
use Rattle.rr_node.proofs.reader.read_first.Given as goal

-- only interrupted reads were made
abbrev pub invariant-loop-used : goal.invariant-loop-used
invariant-loop-used g l = record {
  taken : Consumes (g.R.Read.remaining (inner_of l.initial.input)) (g.R.Read.remaining (inner_of l.input)) [];
  made : HasRisenBy l.used (reads_of l.initial.input) (reads_of l.input);
  few : reads_of l.input ≤ reads_of l.initial.input + l.used;
  ends : ends_of l.input ≡ ends_of l.initial.input;
  count : failures_of l.initial.input ≤ failures_of l.input;
}
