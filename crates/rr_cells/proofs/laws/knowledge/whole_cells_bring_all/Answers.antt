use Rattle.rr_cells.proofs.Deliveries.{names_are_of_the_live, difference_brings_all}
use Rattle.rr_cells.proofs.laws.knowledge.whole_cells_bring_all.Goals as goal

pub returns : goal.returns
returns c = record { names = names_are_of_the_live; difference = difference_brings_all }
