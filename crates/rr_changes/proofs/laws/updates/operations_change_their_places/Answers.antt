use Rattle.rr_changes.proofs.AddingLemmas.{put_changes_its_cells, join_changes_its_cell, operation_changes_its_place}
use Rattle.rr_changes.proofs.HeldLemmas.{held_cells_change_nothing}
use Rattle.rr_changes.proofs.laws.updates.operations_change_their_places.Goals as goal

pub returns : goal.returns
returns c = record {
  puts = put_changes_its_cells;
  joins = join_changes_its_cell;
  places = operation_changes_its_place;
  held = held_cells_change_nothing;
}
