use Rattle.rr_gossip.proofs.JoinedLemmas.{pullers_take}
use Rattle.rr_gossip.proofs.laws.pullers_take.Goals as goal

pub returns : goal.returns
returns c = pullers_take
