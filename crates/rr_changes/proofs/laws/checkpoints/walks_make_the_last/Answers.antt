use Rattle.rr_changes.proofs.CheckpointLemmas.{reads_are_a_walk, walks_bring_all, walks_bring_what_was_held, walks_make_the_last}
use Rattle.rr_changes.proofs.laws.checkpoints.walks_make_the_last.Goals as goal

pub returns : goal.returns
returns c = record {
  all = walks_bring_all;
  held = walks_bring_what_was_held;
  last = walks_make_the_last;
  reads = reads_are_a_walk;
}
