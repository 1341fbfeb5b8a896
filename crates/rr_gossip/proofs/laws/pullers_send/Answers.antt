use Rattle.rr_gossip.proofs.SentLemmas.{pullers_send}
use Rattle.rr_gossip.proofs.laws.pullers_send.Goals as goal

pub returns : goal.returns
returns c = pullers_send
