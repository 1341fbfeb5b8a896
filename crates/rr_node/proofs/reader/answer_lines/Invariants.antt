use Rattle.std.proofs.Common.{◌≡◌, ◌+◌, ◌≤◌, true, false, []}
use Rattle.rr_io.specs.Counted.{inner_of, ends_of, failures_of, is_flushed, reads_of, HasRisenBy}
use Rattle.rr_feed.specs.Feed.{items_left}
use Rattle.rr_node.specs.Fetches.{sight}
use Rattle.rr_node.proofs.ServingLemmas.{SoFar}
use Rattle.rr_node.proofs.reader.answer_lines.Given as goal

-- what was handed out of the bytes that were taken is answered, by one read at each turn
abbrev pub invariant-loop : goal.invariant-loop
invariant-loop g l = record {
  so_far : SoFar l.first l.feed (g.R.Read.remaining (inner_of l.initial.input)) (g.R.Read.remaining (inner_of l.input))
      (g.W.Write.contents (inner_of l.fn.output)) (g.W.Write.contents (inner_of l.output))
      (sight l.fn.reader (g.G.Gate.calls l.fn.gate)) (sight l.reader (g.G.Gate.calls l.gate));
  going : l.feed.ended ≡ false;
  whole : items_left l.feed ≡ [];
  flushed : is_flushed l.output ≡ true;
  made : HasRisenBy l.counter (reads_of l.initial.input) (reads_of l.input);
  few : reads_of l.input ≤ reads_of l.initial.input + l.counter;
  ends : ends_of l.input ≡ ends_of l.initial.input;
  in_count : failures_of l.initial.input ≤ failures_of l.input;
  out_count : failures_of l.fn.output ≤ failures_of l.output;
}
