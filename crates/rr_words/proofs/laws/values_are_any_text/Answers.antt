use Rattle.std.proofs.Common.{refl}
use Rattle.clap.proofs.OnLiterals.{clap_on_literals}
use Rattle.rr_words.proofs.laws.values_are_any_text.Goals as goal

pub returns-clause-file : goal.returns-clause-file
unfolding clap_on_literals
returns-clause-file c = λ f. refl

pub returns-clause-precision : goal.returns-clause-precision
unfolding clap_on_literals
returns-clause-precision c = λ p. refl

pub returns-clause-now : goal.returns-clause-now
unfolding clap_on_literals
returns-clause-now c = λ t. refl

pub returns-clause-both : goal.returns-clause-both
unfolding clap_on_literals
returns-clause-both c = λ p t. refl

pub returns-clause-both_the_other_way : goal.returns-clause-both_the_other_way
unfolding clap_on_literals
returns-clause-both_the_other_way c = λ p t. refl

pub returns-clause-serve : goal.returns-clause-serve
unfolding clap_on_literals
returns-clause-serve c = λ n l s. refl

pub returns-clause-node : goal.returns-clause-node
unfolding clap_on_literals
returns-clause-node c = λ d l. refl
