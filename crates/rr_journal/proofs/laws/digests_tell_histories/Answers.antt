use Rattle.rr_journal.proofs.HistoryLemmas.{digests_tell_histories}
use Rattle.rr_journal.proofs.laws.digests_tell_histories.Goals as goal

pub returns : goal.returns
returns c = digests_tell_histories
