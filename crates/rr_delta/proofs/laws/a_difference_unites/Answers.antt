use Rattle.rr_delta.proofs.LawLemmas.{knowledges_agree, difference_unites}
use Rattle.rr_delta.proofs.laws.a_difference_unites.Goals as goal

pub returns-clause-agree : goal.returns-clause-agree
returns-clause-agree c = knowledges_agree

pub returns-clause-unites : goal.returns-clause-unites
returns-clause-unites c = difference_unites
