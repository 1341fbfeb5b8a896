use Rattle.rr_nodes.proofs.JournalsLemmas as journals
use Rattle.rr_nodes.proofs.laws.journals_bring_all.Goals as goal

pub returns : goal.returns
returns c = record {
  add = journals.nodes_only_add;
  known = journals.holders_know_all;
  taken = journals.taken_are_held;
  all = journals.journals_bring_all;
  checkpoints = journals.checkpointed_bring_all;
  walks = journals.walked_bring_all;
}
