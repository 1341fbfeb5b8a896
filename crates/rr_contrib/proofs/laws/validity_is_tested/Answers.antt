use Rattle.rr_contrib.proofs.ValidityLemmas.{Decides-is_valid}
use Rattle.rr_contrib.proofs.laws.validity_is_tested.Goals as goal

pub returns : goal.returns
returns c = Decides-is_valid
