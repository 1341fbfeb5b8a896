use Rattle.rr_key.proofs.DecisionLemmas.{Decides-is_key_text}
use Rattle.rr_key.proofs.laws.key_texts_are_decidable.Goals as goal

pub returns : goal.returns
returns c = Decides-is_key_text
