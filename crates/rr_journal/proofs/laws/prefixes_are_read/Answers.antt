use Rattle.rr_journal.proofs.TextLemmas.{prefixes_are_read}
use Rattle.rr_journal.proofs.laws.prefixes_are_read.Goals as goal

pub returns : goal.returns
returns c = prefixes_are_read
