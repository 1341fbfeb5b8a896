use Rattle.std.proofs.Common.{◌≡◌, ◌+◌, ◌≤◌, false, []}
use Rattle.rr_io.specs.Counted.{inner_of, ends_of, failures_of, reads_of, HasRisenBy}
use Rattle.rr_feed.specs.Feed.{items_left}
use Rattle.rr_node.specs.Blame.{StaysFlushed}
use Rattle.rr_node.specs.Lines.{rules_of}
use Rattle.rr_node.proofs.LinesLemmas.{IsServing}
use Rattle.rr_node.proofs.lines.serve_lines_within.Given as goal

-- what was taken of the input is served, by one read at each turn
abbrev pub invariant-loop : goal.invariant-loop
invariant-loop g l = record {
  serving : IsServing l.connection (record {
    old = l.initial.keeper;
    new = l.keeper;
    given = g.C.Clock.given l.initial.clock;
    given_since = g.C.Clock.given l.clock;
    input = g.R.Read.remaining (inner_of l.initial.input);
    left = g.R.Read.remaining (inner_of l.input);
    written = g.W.Write.contents (inner_of l.initial.output);
    written_since = g.W.Write.contents (inner_of l.output);
  });
  going : l.connection.feed.ended ≡ false;
  whole : items_left l.connection.feed ≡ [];
  rules : l.connection.rules ≡ rules_of l.fn.precision l.fn.lead;
  pieces : l.connection.pieces ≤ l.counter;
  made : HasRisenBy l.counter (reads_of l.initial.input) (reads_of l.input);
  few : reads_of l.input ≤ reads_of l.initial.input + l.counter;
  ends : ends_of l.input ≡ ends_of l.initial.input;
  flushed : StaysFlushed l.initial.output l.output;
  renewals : g.C.Clock.renewals l.initial.clock ≤ g.C.Clock.renewals l.clock;
  in_count : failures_of l.initial.input ≤ failures_of l.input;
  out_count : failures_of l.initial.output ≤ failures_of l.output;
}
