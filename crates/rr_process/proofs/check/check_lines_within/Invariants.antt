use Rattle.std.proofs.Common.{◌≡◌, ◌+◌, ◌≤◌, false}
use Rattle.rr_io.specs.Counted.{inner_of, failures_of, reads_of, ends_of, HasRisenBy}
use Rattle.rr_process.proofs.StreamLemmas.{HasWritten}
use Rattle.rr_process.proofs.check.check_lines_within.Given as goal

-- what was taken of the input is reported, by one read at each turn
abbrev pub invariant-loop : goal.invariant-loop
invariant-loop g l = record {
  written : HasWritten l.checker (g.R.Read.remaining (inner_of l.initial.input)) (g.R.Read.remaining (inner_of l.input))
      (g.W.Write.contents (inner_of l.initial.output)) (g.W.Write.contents (inner_of l.output));
  going : l.checker.feed.ended ≡ false;
  precision : l.checker.precision ≡ l.fn.precision;
  now : l.checker.now ≡ l.fn.now;
  pieces : l.checker.pieces ≤ l.counter;
  made : HasRisenBy l.counter (reads_of l.initial.input) (reads_of l.input);
  ends : ends_of l.input ≡ ends_of l.initial.input;
  few : reads_of l.input ≤ reads_of l.initial.input + l.counter;
  in_count : failures_of l.initial.input ≤ failures_of l.input;
  out_count : failures_of l.initial.output ≤ failures_of l.output;
}
