use Rattle.std.proofs.Common.{sym}
use Rattle.rr_cluster.proofs.CommandTextsLemmas.{write_command-rest}
use Rattle.rr_cluster.proofs.script.commands.write_command.Goals as goal

pub returns : goal.returns
returns c = rw c.in_ok-node.ensures.words (sym (write_command-rest c.in_ok-node.node.now c.in_ok-node.line.now))
