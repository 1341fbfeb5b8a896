use Rattle.rr_cells.proofs.Raised.{raised_is_closed, raised_is_live, none_in_the_added}
use Rattle.rr_cells.proofs.laws.raising.raised_knowledge_is_closed.Goals as goal

pub returns : goal.returns
returns c = record { closed = raised_is_closed; live = raised_is_live; none = none_in_the_added }
