use Rattle.rr_nodes.proofs.JournalsLemmas as journals
use Rattle.rr_nodes.proofs.laws.journals_are_deeds.Goals as goal

pub returns : goal.returns
returns c = record {
  written = journals.written_were_held;
  checkpoints = journals.checkpoints_were_held;
  walks = journals.walks_were_held;
  deeds = journals.read_cells_are_deeds;
  keeper = journals.read_cells_are_a_keepers;
  calls = journals.read_cells_are_joins;
}
