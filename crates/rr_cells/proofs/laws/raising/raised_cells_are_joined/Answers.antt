use Rattle.rr_cells.proofs.Joined.{raised_is_cell, trimmed_is_raised, join_is_raised, join_cells_is_raised, order_is_kept}
use Rattle.rr_cells.proofs.laws.raising.raised_cells_are_joined.Goals as goal

pub returns : goal.returns
returns c = record {
  cell = raised_is_cell;
  trimmed = trimmed_is_raised;
  join = join_is_raised;
  cells =
      join_cells_is_raised;
  order = order_is_kept;
}
