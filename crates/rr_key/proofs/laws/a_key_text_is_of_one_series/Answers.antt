use Rattle.rr_key.proofs.LawLemmas.{same_series}
use Rattle.rr_key.proofs.laws.a_key_text_is_of_one_series.Goals as goal

pub returns : goal.returns
returns c = same_series
