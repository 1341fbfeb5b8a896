use Rattle.rr_replica.proofs.FieldLemmas.{writing_goes_on}
use Rattle.rr_replica.proofs.laws.writing_goes_on.Goals as goal

pub returns : goal.returns
returns c = writing_goes_on
