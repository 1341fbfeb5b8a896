use Rattle.rr_codec.proofs.CellTextLemmas.{packed_of_bytes}
use Rattle.rr_codec.proofs.laws.readings_are_texts.Goals as goal

pub returns : goal.returns
returns c = λ bytes es rest are read. packed_of_bytes bytes es rest are read
