use Rattle.std.proofs.Common.{subst}
use Rattle.rr_line.specs.Grammar.{IsLineOf}
use Rattle.rr_line.proofs.LineLemmas.{line_found, line_only}
use Rattle.rr_line.proofs.laws.reading_is_the_grammar.Goals as goal

pub returns : goal.returns
returns c = λ precision line parsed. (
  λ e. subst (IsLineOf precision line) e (line_found precision line),
  line_only precision line parsed,
)
