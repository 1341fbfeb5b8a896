use Rattle.rr_batch.proofs.PeerLemmas.{cells_of_the_schema_are_joined}
use Rattle.rr_batch.proofs.laws.cells_of_the_schema_are_joined.Goals as goal

pub returns : goal.returns
returns c = cells_of_the_schema_are_joined
