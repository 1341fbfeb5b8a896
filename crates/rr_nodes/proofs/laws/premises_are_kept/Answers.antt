use Rattle.rr_nodes.proofs.DeedsLemmas.{premises_are_kept, held_are_of_the_schema}
use Rattle.rr_nodes.proofs.laws.premises_are_kept.Goals as goal

pub returns : goal.returns
returns c = record { premises = premises_are_kept; of_schema = held_are_of_the_schema }
