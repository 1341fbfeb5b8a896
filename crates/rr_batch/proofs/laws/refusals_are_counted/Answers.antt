use Rattle.rr_batch.proofs.RefusalTextLemmas.{refusals_are_counted}
use Rattle.rr_batch.proofs.laws.refusals_are_counted.Goals as goal

pub returns : goal.returns
returns c = refusals_are_counted
