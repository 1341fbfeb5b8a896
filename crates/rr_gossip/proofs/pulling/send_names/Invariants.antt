use Rattle.std.proofs.Common.{◌≤◌, ◌-◌, List, ℕ}
use Rattle.std.specs.Io.KnownBytes.{Appends}
use Rattle.std.specs.List.{concat}
use Rattle.rr_io.specs.Counted.{inner_of, failures_of}
use Rattle.rr_gossip.proofs.SendLemmas.{Sends}
use Rattle.rr_gossip.proofs.pulling.send_names.Given as goal

-- some of the frames are written, and the puller sends the others
abbrev pub invariant-loop-frame : goal.invariant-loop-frame
invariant-loop-frame g l = record {
  before : List (List ℕ);
  sends : Sends (g.T.Target.cells l.target) (g.T.Target.layout l.target) l.initial.puller.limit l.puller before;
  written : Appends (g.W.Write.contents (inner_of l.initial.output)) (g.W.Write.contents (inner_of l.output))
      (concat before);
  count : failures_of l.initial.output ≤ failures_of l.output;
}

abbrev pub decreases-loop-frame : goal.decreases-loop-frame
decreases-loop-frame g l = l.puller.limit - l.puller.sent
