use Rattle.std.proofs.Common.{◌≡◌, ◌≤◌, ◌-◌, List, ℕ, Ok, length}
use Rattle.rr_io.specs.Counted.{inner_of, failures_of}
use Rattle.rr_cells.specs.Cells.{Cells}
use Rattle.rr_gossip.specs.Stream.{WasRead}
use Rattle.rr_gossip.specs.Transcript.{contents, giver_after}
use Rattle.rr_gossip.proofs.giving.take_names.Given as goal

-- whole frames were read and taken, whatever the cells are, and nothing of the next but what was read before
abbrev pub invariant-loop-frame : goal.invariant-loop-frame
invariant-loop-frame g l = record {
  frames : List (List ℕ);
  read : WasRead l.before (g.R.Read.remaining (inner_of l.initial.input)) (g.R.Read.remaining (inner_of l.input)) frames
      l.frame.items;
  few : length l.frame.items ≤ 4;
  taken : (m : Cells) → giver_after m (g.S.Source.layout l.initial.source) l.initial.giver (contents frames)
      ≡ Ok l.giver;
  schema : g.S.Source.layout l.source ≡ g.S.Source.layout l.initial.source;
  kept : g.S.Source.may_become l.initial.source l.source;
  sent : l.giver.sent ≡ l.initial.giver.sent;
  limit : l.giver.limit ≡ l.initial.giver.limit;
  count : failures_of l.initial.input ≤ failures_of l.input;
}

abbrev pub decreases-loop-frame : goal.decreases-loop-frame
decreases-loop-frame g l = l.giver.limit - l.giver.taken
