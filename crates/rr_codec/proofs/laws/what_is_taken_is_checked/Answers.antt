use Rattle.rr_codec.proofs.CheckLemmas.{are_taken}
use Rattle.rr_codec.proofs.laws.what_is_taken_is_checked.Goals as goal

pub returns : goal.returns
returns c = λ s archive bytes es e. are_taken s archive bytes es e
