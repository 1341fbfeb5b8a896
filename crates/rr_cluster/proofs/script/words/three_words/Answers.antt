use Rattle.rr_cluster.proofs.ScriptWordsLemmas.{are_three-more}
use Rattle.rr_cluster.proofs.script.words.three_words.Goals as goal

pub returns-in-Some : goal.returns-in-Some
returns-in-Some c =
    rw (c.in_ok-first.ensures.words, c.in_ok-second.ensures.words, c.in-Some.ensures.words)
    (are_three-more c.in_ok-first.first.now c.in_ok-second.second.now c.in-Some.field-0.0.now c.in-Some.field-0.1.now)
