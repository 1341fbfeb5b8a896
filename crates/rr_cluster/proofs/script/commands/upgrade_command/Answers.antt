use Rattle.std.proofs.Common.{sym}
use Rattle.rr_cluster.proofs.CommandTextsLemmas.{upgrade_command-more}
use Rattle.rr_cluster.proofs.script.commands.upgrade_command.Goals as goal

pub returns-in-Some : goal.returns-in-Some
returns-in-Some c =
    rw c.in-Some.ensures.words (sym (upgrade_command-more c.in-Some.field-0.0.now c.in-Some.field-0.1.now))
