use Rattle.rr_schema.proofs.ChoiceLemmas.{choice_is_the_rule}
use Rattle.rr_schema.proofs.laws.choice_is_the_rule.Goals as goal

pub returns : goal.returns
returns c = choice_is_the_rule
