use Rattle.std.proofs.Common.{◌-◌, ◌≤◌, length}
use Rattle.rr_io.specs.Counted.{inner_of, failures_of}
use Rattle.rr_gossip.specs.Stream.{Grows}
use Rattle.rr_gossip.proofs.stream.read_until.Given as goal

-- what was read stands after the bytes of the start, and there are no more than are asked for
abbrev pub invariant-loop-piece : goal.invariant-loop-piece
invariant-loop-piece g l = record {
  read : Grows (g.R.Read.remaining (inner_of l.initial.input)) (g.R.Read.remaining (inner_of l.input))
      l.initial.bytes.items l.bytes.items;
  few : length l.bytes.items ≤ l.len;
  count : failures_of l.initial.input ≤ failures_of l.input;
}

abbrev pub decreases-loop-piece : goal.decreases-loop-piece
decreases-loop-piece g l = l.len - length l.bytes.items
