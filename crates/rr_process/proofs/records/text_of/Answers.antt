use Rattle.rr_process.specs.Writing.{written}
use Rattle.rr_process.proofs.records.text_of.Goals as goal

pub returns-in-Ok : goal.returns-in-Ok
unfolding written
returns-in-Ok c = c.in-Ok.ensures.ok
