use Rattle.rr_nodes.proofs.KeepersLemmas as keepers
use Rattle.rr_nodes.proofs.laws.readers_answer_from_samples.Goals as goal

pub returns : goal.returns
returns c = record {
  moments = keepers.readers_see_moments;
  answers = keepers.readers_answer_from_samples;
  alike =
      keepers.readers_answer_alike;
}
