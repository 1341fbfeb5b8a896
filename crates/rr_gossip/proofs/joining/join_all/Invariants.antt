use Rattle.std.proofs.Common.{map, take}
use Rattle.rr_cells.specs.Listing.{owned_cell}
use Rattle.rr_gossip.proofs.joining.join_all.Given as goal

-- the cells so far are joined
abbrev pub invariant-loop-cell : goal.invariant-loop-cell
invariant-loop-cell g l = record {
  joined : g.T.Target.has_joined l.initial.target l.target (map owned_cell (take l.cell-index l.cells));
}
