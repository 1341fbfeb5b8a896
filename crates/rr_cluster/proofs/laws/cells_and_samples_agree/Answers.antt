use Rattle.rr_cluster.proofs.AgreementLemmas.{commands_agree, scripts_agree}
use Rattle.rr_cluster.proofs.laws.cells_and_samples_agree.Goals as goal

pub returns-clause-commands : goal.returns-clause-commands
returns-clause-commands c = commands_agree

pub returns-clause-scripts : goal.returns-clause-scripts
returns-clause-scripts c = scripts_agree
