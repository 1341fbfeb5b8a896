use Rattle.std.proofs.Common.{rules}
use Rattle.rr_cluster.proofs.MeaningLemmas.{some_represents}
use Rattle.rr_cluster.proofs.commands.run_command.Goals as goal

pub run_later_command-requires : goal.run_later_command-requires
run_later_command-requires g c = record {
  line = search rules;
  state = some_represents c.in-Some.cluster c.requires.state.0 (rw c.in-Some.is at c.requires.state.1);
}
