use Rattle.rr_changes.proofs.AddingLemmas.{operations_only_add, update_makes_the_outcome}
use Rattle.rr_changes.proofs.HoldingLemmas.{update_makes_the_cells, updates_bring_all, updates_make_the_last}
use Rattle.rr_changes.proofs.laws.updates.updates_bring_all.Goals as goal

pub returns : goal.returns
returns c = record {
  add = operations_only_add;
  cells = update_makes_the_cells;
  outcome = update_makes_the_outcome;
  all = updates_bring_all;
  last = updates_make_the_last;
}
