use Rattle.rr_cells.proofs.ValidStates.{states_are_valid}
use Rattle.rr_cells.proofs.WrittenCells.{versions_are_numbers, next_stays, sums_are_small}
use Rattle.rr_cells.proofs.laws.cells.cells_of_samples_are_valid.Goals as goal

pub returns : goal.returns
returns c = record {
  valid = states_are_valid;
  versions = versions_are_numbers;
  next = next_stays;
  sums =
      sums_are_small;
}
