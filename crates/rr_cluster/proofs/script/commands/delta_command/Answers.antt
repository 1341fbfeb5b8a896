use Rattle.std.proofs.Common.{sym}
use Rattle.rr_cluster.proofs.CommandTextsLemmas.{delta_command-none}
use Rattle.rr_cluster.proofs.script.commands.delta_command.Goals as goal

pub returns-in_err-taker : goal.returns-in_err-taker
returns-in_err-taker c =
    rw (c.from_residual-in_err-taker.ensures, c.in_ok-name.ensures.words, c.in_ok-giver.ensures.words)
    (sym (delta_command-none c.in_ok-name.name.now c.in_ok-giver.giver.now _ c.in_err-taker.ensures))
