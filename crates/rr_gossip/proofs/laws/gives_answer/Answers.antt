use Rattle.rr_gossip.proofs.PullLemmas.{gives_answer, gives_hear_the_names}
use Rattle.rr_gossip.proofs.laws.gives_answer.Goals as goal

pub returns : goal.returns
returns c = record { heard = gives_hear_the_names; answer = gives_answer }
