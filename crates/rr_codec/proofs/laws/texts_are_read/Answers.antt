use Rattle.rr_codec.proofs.CellLemmas.{packed_again}
use Rattle.rr_codec.proofs.laws.texts_are_read.Goals as goal

pub returns : goal.returns
returns c = packed_again
