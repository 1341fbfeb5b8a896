use Rattle.rr_host.proofs.CallsLemmas.{grows_not}
use Rattle.rr_node.proofs.rounds.keep_or_halt.Goals as goal

pub returns-in-Ok : goal.returns-in-Ok
returns-in-Ok g c = record { rounds = rw c.in-Ok.is at c.keep_rounds.ensures; halted = grows_not _ }

pub returns-in-Err : goal.returns-in-Err
returns-in-Err g c = record { rounds = rw c.in-Err.is at c.keep_rounds.ensures; halted = c.halt.ensures }
