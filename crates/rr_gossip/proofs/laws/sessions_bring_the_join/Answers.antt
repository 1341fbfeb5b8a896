use Rattle.rr_gossip.proofs.JoinedLemmas.{sessions_bring_the_join}
use Rattle.rr_gossip.proofs.laws.sessions_bring_the_join.Goals as goal

pub returns : goal.returns
returns c = sessions_bring_the_join
