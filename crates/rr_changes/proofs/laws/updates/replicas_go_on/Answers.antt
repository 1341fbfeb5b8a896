use Rattle.rr_changes.proofs.AddingLemmas.{operations_go_on, replicas_go_on}
use Rattle.rr_changes.proofs.laws.updates.replicas_go_on.Goals as goal

pub returns : goal.returns
returns c = record { replicas = replicas_go_on; operations = operations_go_on }
