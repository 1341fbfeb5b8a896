use Rattle.rr_cells.proofs.WholeCells as whole
use Rattle.rr_cells.proofs.Parting.{parts_are_cut}
use Rattle.rr_cells.proofs.laws.cells.whole_cells_make_their_cells.Goals as goal

pub returns-clause-part : goal.returns-clause-part
returns-clause-part c = whole.whole_cells_make_their_cells

pub returns-clause-live : goal.returns-clause-live
returns-clause-live c = whole.live_makes_the_same

pub returns-clause-live_alone : goal.returns-clause-live_alone
returns-clause-live_alone c = whole.state_is_of_the_live

pub returns-clause-cut : goal.returns-clause-cut
returns-clause-cut c = parts_are_cut
