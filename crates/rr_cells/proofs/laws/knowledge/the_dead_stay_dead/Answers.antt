use Rattle.rr_cells.proofs.Knowing.{dead_stay_dead}
use Rattle.rr_cells.proofs.laws.knowledge.the_dead_stay_dead.Goals as goal

pub returns : goal.returns
returns c = dead_stay_dead
