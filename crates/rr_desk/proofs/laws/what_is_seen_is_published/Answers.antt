use Rattle.rr_desk.proofs.RuleLemmas.{seen_is_published}
use Rattle.rr_desk.proofs.laws.what_is_seen_is_published.Goals as goal

pub returns : goal.returns
returns c = seen_is_published
