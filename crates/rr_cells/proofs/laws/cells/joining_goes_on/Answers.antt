use Rattle.rr_cells.proofs.JoiningLemmas.{joining_goes_on}
use Rattle.rr_cells.proofs.laws.cells.joining_goes_on.Goals as goal

pub returns : goal.returns
returns c = joining_goes_on
