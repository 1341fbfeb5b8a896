use Rattle.rr_schema.proofs.AdditionLemmas.{additions_are_found}
use Rattle.rr_schema.proofs.laws.bytes_tell_the_addition.Goals as goal

pub returns : goal.returns
returns c = additions_are_found
