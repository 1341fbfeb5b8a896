use Rattle.rr_gossip.proofs.TakenLemmas.{givers_take}
use Rattle.rr_gossip.proofs.laws.givers_take.Goals as goal

pub returns : goal.returns
returns c = givers_take
