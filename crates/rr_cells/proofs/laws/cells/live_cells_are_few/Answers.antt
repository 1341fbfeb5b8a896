use Rattle.rr_cells.proofs.PutLaws.{cells_few}
use Rattle.rr_cells.proofs.laws.cells.live_cells_are_few.Goals as goal

pub returns : goal.returns
returns c = cells_few
