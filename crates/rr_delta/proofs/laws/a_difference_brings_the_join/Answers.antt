use Rattle.rr_delta.proofs.LawLemmas.{difference_brings_the_join}
use Rattle.rr_delta.proofs.laws.a_difference_brings_the_join.Goals as goal

pub returns : goal.returns
returns c = difference_brings_the_join
