use Rattle.std.proofs.Common.{◌≡◌, ◌≤◌, ◌-◌, List, ℕ}
use Rattle.std.specs.Io.KnownBytes.{Appends}
use Rattle.std.specs.List.{concat}
use Rattle.rr_io.specs.Counted.{inner_of, failures_of}
use Rattle.rr_gossip.specs.Session.{reply_left}
use Rattle.rr_gossip.proofs.GivingLemmas.{Replies}
use Rattle.rr_gossip.proofs.giving.send_pages.Given as goal

-- some of the frames are written, and the giver sends the others
abbrev pub invariant-loop-frame : goal.invariant-loop-frame
invariant-loop-frame g l = record {
  before : List (List ℕ);
  replies : Replies (reply_left l.initial.giver.stage) l.initial.giver.limit l.giver before;
  written : Appends (g.W.Write.contents (inner_of l.initial.output)) (g.W.Write.contents (inner_of l.output))
      (concat before);
  source : l.source ≡ l.initial.source;
  count : failures_of l.initial.output ≤ failures_of l.output;
}

abbrev pub decreases-loop-frame : goal.decreases-loop-frame
decreases-loop-frame g l = l.giver.limit - l.giver.sent
