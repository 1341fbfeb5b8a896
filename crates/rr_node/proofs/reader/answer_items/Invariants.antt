use Rattle.std.proofs.Common.{◌≤◌, length}
use Rattle.rr_io.specs.Counted.{inner_of, failures_of}
use Rattle.rr_node.specs.Answering.{HasWritten}
use Rattle.rr_node.specs.Fetches.{sight}
use Rattle.rr_node.proofs.reader.answer_items.Given as goal

-- what was handed out is answered
abbrev pub invariant-loop-text : goal.invariant-loop-text
invariant-loop-text g l = record {
  written : HasWritten l.initial.feed l.feed (sight l.initial.reader (g.G.Gate.calls l.initial.gate))
      (sight l.reader (g.G.Gate.calls l.gate)) (g.W.Write.contents (inner_of l.initial.output))
      (g.W.Write.contents (inner_of l.output));
  count : failures_of l.initial.output ≤ failures_of l.output;
}

abbrev pub decreases-loop-text : goal.decreases-loop-text
decreases-loop-text g l = length l.feed.left
