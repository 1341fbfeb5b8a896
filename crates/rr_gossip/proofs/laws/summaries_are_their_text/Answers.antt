use Rattle.rr_gossip.proofs.SummaryLemmas.{summaries_are_their_text}
use Rattle.rr_gossip.proofs.laws.summaries_are_their_text.Goals as goal

pub returns : goal.returns
returns c = summaries_are_their_text
