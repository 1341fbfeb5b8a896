use Rattle.rr_recovery.proofs.LawLemmas.{synced_is_there}
use Rattle.rr_recovery.proofs.laws.synced_is_there.Goals as goal

pub returns : goal.returns
returns c = synced_is_there
