use Rattle.rr_snapshot.proofs.SavedLemmas.{saved_is_loaded}
use Rattle.rr_snapshot.proofs.laws.saved_is_loaded.Goals as goal

pub returns : goal.returns
returns c = saved_is_loaded
