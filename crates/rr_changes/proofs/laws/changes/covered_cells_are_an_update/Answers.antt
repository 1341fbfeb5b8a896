use Rattle.rr_changes.proofs.CoveredLemmas.{covered_cells_are_an_update, covered_cells_make_the_cells, periods_are_writes}
use Rattle.rr_changes.proofs.laws.changes.covered_cells_are_an_update.Goals as goal

pub returns : goal.returns
returns c = record {
  update = covered_cells_are_an_update;
  makes = covered_cells_make_the_cells;
  periods = periods_are_writes;
}
