use Rattle.rr_cells.proofs.JoinLaws.{join_unites}
use Rattle.rr_cells.proofs.CellByCell.{join_cell_unites}
use Rattle.rr_cells.proofs.laws.cells.a_join_is_a_union.Goals as goal

pub returns-clause-whole : goal.returns-clause-whole
returns-clause-whole c = join_unites

pub returns-clause-cell : goal.returns-clause-cell
returns-clause-cell c = join_cell_unites
