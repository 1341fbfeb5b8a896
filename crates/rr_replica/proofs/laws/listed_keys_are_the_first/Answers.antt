use Rattle.rr_replica.proofs.KeysInOrder.{listed_are_the_first}
use Rattle.rr_replica.proofs.laws.listed_keys_are_the_first.Goals as goal

pub returns : goal.returns
returns c = listed_are_the_first
