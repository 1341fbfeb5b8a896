use Rattle.rr_journal.proofs.TextLemmas.{committed_is_read, synced_is_read}
use Rattle.rr_journal.proofs.laws.synced_is_read.Goals as goal

pub returns-clause-synced : goal.returns-clause-synced
returns-clause-synced c = synced_is_read

pub returns-clause-committed : goal.returns-clause-committed
returns-clause-committed c = committed_is_read
