use Rattle.rr_cells.proofs.WrittenCells.{joins_make_their_cells, joins_are_taken}
use Rattle.rr_cells.proofs.laws.cells.joins_make_their_cells.Goals as goal

pub returns : goal.returns
returns c = record { made = joins_make_their_cells; taken = joins_are_taken }
