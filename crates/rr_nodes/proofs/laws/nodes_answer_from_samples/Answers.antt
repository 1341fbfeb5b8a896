use Rattle.rr_nodes.proofs.DeedsLemmas as nodes
use Rattle.rr_nodes.proofs.laws.nodes_answer_from_samples.Goals as goal

pub returns : goal.returns
returns c = record {
  cells = nodes.nodes_are_of_samples;
  fetches = nodes.fetches_are_of_samples;
  alike =
      nodes.moments_answer_alike;
}
