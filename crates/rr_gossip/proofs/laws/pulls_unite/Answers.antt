use Rattle.rr_gossip.proofs.PullLemmas.{pulls_unite}
use Rattle.rr_gossip.proofs.laws.pulls_unite.Goals as goal

pub returns : goal.returns
returns c = pulls_unite
