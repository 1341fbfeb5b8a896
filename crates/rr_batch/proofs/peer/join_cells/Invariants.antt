use Rattle.std.proofs.Common.{◌≡◌, take}
use Rattle.rr_batch.specs.Peers.{joined_to}
use Rattle.rr_batch.proofs.peer.join_cells.Given as goal

-- the cells so far are joined
abbrev pub invariant-loop-cell : goal.invariant-loop-cell
invariant-loop-cell g l = l.keeper ≡ joined_to l.initial.keeper (take l.cell-index l.cells)
