use Rattle.std.proofs.Common.{sym}
use Rattle.rr_cluster.proofs.CommandTextsLemmas.{page_command-none}
use Rattle.rr_cluster.proofs.script.commands.page_command.Goals as goal

pub returns-in_err-node : goal.returns-in_err-node
returns-in_err-node c =
    rw (c.from_residual-in_err-node.ensures, c.in_ok-name.ensures.words)
    (sym (page_command-none c.in_ok-name.name.now _ c.in_err-node.ensures))
