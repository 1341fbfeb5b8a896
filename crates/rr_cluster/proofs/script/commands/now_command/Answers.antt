use Rattle.std.proofs.Common.{sym}
use Rattle.rr_cluster.proofs.CommandTextsLemmas.{now_command-more}
use Rattle.rr_cluster.proofs.script.commands.now_command.Goals as goal

pub returns-in-Some-first_word : goal.returns-in-Some-first_word
returns-in-Some-first_word c =
    rw (c.in-Some.ensures.words, c.in-Some-first_word.ensures.words)
    (sym (now_command-more c.in-Some.time.now c.in-Some-first_word.field-0.0.now
    c.in-Some-first_word.field-0.1.now))
