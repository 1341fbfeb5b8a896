use Rattle.std.proofs.Common.{◌≡◌, ◌≤◌, ◌-◌, [], List, ℕ, Ok, length}
use Rattle.rr_cells.specs.CellBounds.{NamedCell}
use Rattle.rr_io.specs.Counted.{inner_of, failures_of}
use Rattle.rr_gossip.specs.Stream.{WasRead}
use Rattle.rr_gossip.specs.Transcript.{contents, puller_after}
use Rattle.rr_gossip.proofs.pulling.take_pages.Given as goal

-- whole frames were read and taken, and nothing of the next
abbrev pub invariant-loop-frame : goal.invariant-loop-frame
invariant-loop-frame g l = record {
  frames : List (List ℕ);
  read : WasRead [] (g.R.Read.remaining (inner_of l.initial.input)) (g.R.Read.remaining (inner_of l.input)) frames
      l.frame.items;
  few : length l.frame.items ≤ 4;
  cells : List NamedCell;
  taken : puller_after (g.T.Target.layout l.initial.target) l.initial.puller [] (contents frames)
      ≡ Ok (l.puller, cells);
  joined : g.T.Target.has_joined l.initial.target l.target cells;
  count : failures_of l.initial.input ≤ failures_of l.input;
}

abbrev pub decreases-loop-frame : goal.decreases-loop-frame
decreases-loop-frame g l = l.puller.limit - l.puller.taken
