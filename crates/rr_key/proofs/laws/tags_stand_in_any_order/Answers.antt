use Rattle.rr_key.proofs.LawLemmas.{same_tags}
use Rattle.rr_key.proofs.MakingLemmas.{IsSeries-making_fault}
use Rattle.rr_key.proofs.laws.tags_stand_in_any_order.Goals as goal

pub returns-clause-made : goal.returns-clause-made
returns-clause-made c = IsSeries-making_fault

pub returns-clause-moved : goal.returns-clause-moved
returns-clause-moved c =
    λ measurement field tags others p once. λ i. record
    { measurement = measurement; tags = same_tags tags others p once i; field = field }
