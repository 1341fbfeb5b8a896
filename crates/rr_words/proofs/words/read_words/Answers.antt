use Rattle.std.proofs.Common.{map, ◌∙◌, inl, inr}
use Rattle.std.proofs.lemmas.Result.{MatchResult-weaker}
use Rattle.clap.specs.Words.{app_of, kind_of}
use Rattle.rr_words.proofs.WordsLemmas.{asked_at-matches, asked_at-refused}
use Rattle.rr_words.proofs.words.read_words.Goals as goal

pub returns-in-Ok-clause-asked : goal.returns-in-Ok-clause-asked
returns-in-Ok-clause-asked c =
    let same = asked_at-matches (app_of c.in_ok-command.command) (map (λ word. word.now) c.args.words.now)
    c.in-Ok.matches c.in_ok-command.ensures c.in-Ok.ensures.kinds c.in-Ok.ensures.ok.2 in
    MatchResult-weaker c.order_of.result c.order_of.ensures (λ order e. same ∙ e) (λ fault e. tt)

pub returns-in-Ok-clause-refused : goal.returns-in-Ok-clause-refused
returns-in-Ok-clause-refused c =
    let same = asked_at-matches (app_of c.in_ok-command.command) (map (λ word. word.now) c.args.words.now)
    c.in-Ok.matches c.in_ok-command.ensures c.in-Ok.ensures.kinds c.in-Ok.ensures.ok.2 in
    MatchResult-weaker c.order_of.result c.order_of.ensures (λ order e. tt) (λ fault e other. same ∙ e other)

pub returns-clause-refused : goal.returns-clause-refused
returns-clause-refused c = λ other.
    asked_at-refused (app_of c.in_ok-command.command) (map (λ word. word.now) c.args.words.now) (kind_of c.in-Err.error)
    c.in_ok-command.ensures
    (λ free. elim (c.in-Err.ensures.kinds free) [
      | inl memory ↦ absurd (other (c.words_fault.ensures memory))
      | inr among ↦ among
    ])
