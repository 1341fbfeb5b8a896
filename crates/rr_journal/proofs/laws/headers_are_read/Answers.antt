use Rattle.rr_journal.proofs.HeaderLemmas.{headers_are_read}
use Rattle.rr_journal.proofs.laws.headers_are_read.Goals as goal

pub returns : goal.returns
returns c = headers_are_read
