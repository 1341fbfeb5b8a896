use Rattle.std.proofs.Common.{sym}
use Rattle.rr_cluster.proofs.CommandTextsLemmas.{save_command-more}
use Rattle.rr_cluster.proofs.script.commands.save_command.Goals as goal

pub returns-in-Some : goal.returns-in-Some
returns-in-Some c =
    rw (c.in_ok-name.ensures.words, c.in-Some.ensures.words)
    (sym (save_command-more c.in_ok-name.name.now c.in-Some.field-0.0.now c.in-Some.field-0.1.now))
