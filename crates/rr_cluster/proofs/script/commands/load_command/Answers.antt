use Rattle.std.proofs.Common.{sym}
use Rattle.rr_cluster.proofs.CommandTextsLemmas.{load_command-none}
use Rattle.rr_cluster.proofs.script.commands.load_command.Goals as goal

pub returns-in_err-name : goal.returns-in_err-name
returns-in_err-name c = rw c.from_residual.ensures (sym (load_command-none _ c.in_err-name.ensures))
