use Rattle.rr_snapshot.proofs.SavedLemmas.{saved_is_raised, other_schemas_differ}
use Rattle.rr_snapshot.proofs.laws.saved_is_raised.Goals as goal

pub returns : goal.returns
returns c = record { raised = saved_is_raised; differs = other_schemas_differ }
