use Rattle.rr_gossip.proofs.ReplyLemmas.{givers_reply}
use Rattle.rr_gossip.proofs.laws.givers_reply.Goals as goal

pub returns : goal.returns
returns c = givers_reply
