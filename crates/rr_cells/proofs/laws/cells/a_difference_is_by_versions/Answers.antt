use Rattle.rr_cells.proofs.Differing.{difference_is_by_versions}
use Rattle.rr_cells.proofs.laws.cells.a_difference_is_by_versions.Goals as goal

pub returns : goal.returns
returns c = difference_is_by_versions
