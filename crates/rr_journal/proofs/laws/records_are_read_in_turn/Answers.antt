use Rattle.rr_journal.proofs.ReadingLemmas.{records_are_read_in_turn}
use Rattle.rr_journal.proofs.laws.records_are_read_in_turn.Goals as goal

pub returns : goal.returns
returns c = records_are_read_in_turn
