use Rattle.rr_directory.proofs.RaisingLemmas.{raised_are_the_cells}
use Rattle.rr_directory.proofs.laws.raised_are_the_cells.Goals as goal

pub returns : goal.returns
returns c = raised_are_the_cells
