use Rattle.rr_changes.proofs.CheckpointLemmas.{checkpoints_bring_all, checkpoints_bring_what_was_held, checkpoints_make_the_last}
use Rattle.rr_changes.proofs.laws.checkpoints.checkpoints_make_the_last.Goals as goal

pub returns : goal.returns
returns c = record {
  all = checkpoints_bring_all;
  held = checkpoints_bring_what_was_held;
  last = checkpoints_make_the_last;
}
