use Rattle.rr_journal.proofs.ReadingLemmas.{records_are_their_text}
use Rattle.rr_journal.proofs.laws.records_are_their_text.Goals as goal

pub returns : goal.returns
returns c = records_are_their_text
