use Rattle.rr_gossip.proofs.PullLemmas.{pulls_take_the_reply, stopped_pulls_take_a_prefix}
use Rattle.rr_gossip.proofs.laws.pulls_take_the_reply.Goals as goal

pub returns : goal.returns
returns c = record { whole = pulls_take_the_reply; stopped = stopped_pulls_take_a_prefix }
