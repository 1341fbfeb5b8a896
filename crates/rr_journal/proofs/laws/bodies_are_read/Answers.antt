use Rattle.rr_journal.proofs.BodyLemmas.{bodies_are_read}
use Rattle.rr_journal.proofs.laws.bodies_are_read.Goals as goal

pub returns : goal.returns
returns c = bodies_are_read
