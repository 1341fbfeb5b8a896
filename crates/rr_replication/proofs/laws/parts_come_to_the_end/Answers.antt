use Rattle.rr_replication.proofs.GivenLemmas.{parts_are_within, parts_come_to_the_end}
use Rattle.rr_replication.proofs.laws.parts_come_to_the_end.Goals as goal

pub returns-clause-within : goal.returns-clause-within
returns-clause-within c = parts_are_within

pub returns-clause-end : goal.returns-clause-end
returns-clause-end c = parts_come_to_the_end
