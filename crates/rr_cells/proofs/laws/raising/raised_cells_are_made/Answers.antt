use Rattle.rr_cells.proofs.Raised.{raised_makes_raised_cells}
use Rattle.rr_cells.proofs.laws.raising.raised_cells_are_made.Goals as goal

pub returns : goal.returns
returns c = raised_makes_raised_cells
