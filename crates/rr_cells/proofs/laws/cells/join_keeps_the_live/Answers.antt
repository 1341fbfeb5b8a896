use Rattle.rr_cells.proofs.JoinLaws.{join_commutes, join_associates, join_itself, join_trims, join_goes_by_archives}
use Rattle.rr_cells.proofs.CellByCell.{join_goes_by_cells}
use Rattle.rr_cells.proofs.laws.cells.join_keeps_the_live.Goals as goal

pub returns-clause-commutative : goal.returns-clause-commutative
returns-clause-commutative c = join_commutes

pub returns-clause-associative : goal.returns-clause-associative
returns-clause-associative c = join_associates

pub returns-clause-idempotent : goal.returns-clause-idempotent
returns-clause-idempotent c = join_itself

pub returns-clause-trimmed : goal.returns-clause-trimmed
returns-clause-trimmed c = join_trims

pub returns-clause-local : goal.returns-clause-local
returns-clause-local c = join_goes_by_archives

pub returns-clause-cells : goal.returns-clause-cells
returns-clause-cells c = join_goes_by_cells
