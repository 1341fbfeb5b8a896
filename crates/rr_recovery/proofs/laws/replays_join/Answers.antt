use Rattle.rr_recovery.proofs.LawLemmas.{records_are_taken, replays_join}
use Rattle.rr_recovery.proofs.laws.replays_join.Goals as goal

pub returns-clause-taken : goal.returns-clause-taken
returns-clause-taken c = records_are_taken

pub returns-clause-joined : goal.returns-clause-joined
returns-clause-joined c = replays_join
