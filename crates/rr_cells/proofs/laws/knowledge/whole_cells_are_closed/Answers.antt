use Rattle.rr_cells.proofs.ClosedCells.{whole_cells_are_closed, live_is_closed, whole_cells_are_live, live_is_live}
use Rattle.rr_cells.proofs.laws.knowledge.whole_cells_are_closed.Goals as goal

pub returns : goal.returns
returns c = record {
  part = whole_cells_are_closed;
  live = live_is_closed;
  part_live = whole_cells_are_live;
  live_live =
      live_is_live;
}
