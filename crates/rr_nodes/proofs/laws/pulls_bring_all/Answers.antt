use Rattle.rr_nodes.specs.Models.{cell_model, sample_model}
use Rattle.rr_nodes.proofs.PullsLemmas as pulls
use Rattle.rr_nodes.proofs.laws.pulls_bring_all.Goals as goal

pub returns : goal.returns
returns c = record {
  cells = pulls.takes_are_in_order cell_model;
  marks = pulls.takes_are_in_order sample_model;
  all =
      pulls.pulls_bring_all;
}
