use Rattle.rr_journal.proofs.ReadingLemmas.{reading_goes_on, texts_are_read}
use Rattle.rr_journal.proofs.TextLemmas.{texts_go_on}
use Rattle.rr_journal.proofs.laws.records_go_on.Goals as goal

pub returns-clause-read : goal.returns-clause-read
returns-clause-read c = reading_goes_on

pub returns-clause-texts : goal.returns-clause-texts
returns-clause-texts c = texts_go_on

pub returns-clause-alone : goal.returns-clause-alone
returns-clause-alone c = texts_are_read
