use Rattle.rr_changes.proofs.ListedLemmas.{listed_changes_are_the_same, listed_changes_make_the_cells, tracked_changes_make_the_cells}
use Rattle.rr_changes.proofs.laws.changes.listed_changes_make_the_cells.Goals as goal

pub returns : goal.returns
returns c = record {
  same = listed_changes_are_the_same;
  makes = listed_changes_make_the_cells;
  tracked = tracked_changes_make_the_cells;
}
