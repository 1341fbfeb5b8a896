use Rattle.rr_delta.proofs.LawLemmas.{difference_by_versions, difference_of_knowledges, differences_are_cut}
use Rattle.rr_delta.proofs.laws.a_difference_is_by_versions.Goals as goal

pub returns-clause-cells : goal.returns-clause-cells
returns-clause-cells c = difference_by_versions

pub returns-clause-knowledges : goal.returns-clause-knowledges
returns-clause-knowledges c = difference_of_knowledges

pub returns-clause-cut : goal.returns-clause-cut
returns-clause-cut c = differences_are_cut
