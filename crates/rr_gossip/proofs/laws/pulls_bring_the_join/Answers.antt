use Rattle.rr_gossip.proofs.PullLemmas.{pulls_bring_the_difference, pulls_bring_the_join}
use Rattle.rr_gossip.proofs.laws.pulls_bring_the_join.Goals as goal

pub returns : goal.returns
returns c = record { difference = pulls_bring_the_difference; join = pulls_bring_the_join }
