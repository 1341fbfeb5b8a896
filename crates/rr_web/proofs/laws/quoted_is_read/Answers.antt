use Rattle.rr_web.proofs.UnquotedLemmas.{quoted_again}
use Rattle.rr_web.proofs.laws.quoted_is_read.Goals as goal

pub returns : goal.returns
returns c = quoted_again
