use Rattle.rr_nodes.proofs.ExampleLemmas.{three_answer}
use Rattle.rr_nodes.proofs.laws.three_nodes_by_example.Goals as goal

pub returns : goal.returns
returns c = three_answer
