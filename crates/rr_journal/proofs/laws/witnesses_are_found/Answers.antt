use Rattle.rr_journal.proofs.WitnessLemmas.{witnesses_are_found}
use Rattle.rr_journal.proofs.laws.witnesses_are_found.Goals as goal

pub returns : goal.returns
returns c = witnesses_are_found
