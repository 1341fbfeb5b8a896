use Rattle.rr_cluster.proofs.ScriptWordsLemmas.{cut_is, cut_is_shorter}
use Rattle.rr_cluster.proofs.script.words.first_part.Goals as goal

pub returns-clause-parts : goal.returns-clause-parts
returns-clause-parts c = cut_is c.args.delimiter c.args.text.now (λ p. (p.0.now, p.1.now)) c.cut.result c.cut.ensures

pub returns-clause-shorter : goal.returns-clause-shorter
returns-clause-shorter c = cut_is_shorter c.args.delimiter c.args.text.now (λ p. (p.0.now, p.1.now)) c.cut.result
    c.cut.ensures
