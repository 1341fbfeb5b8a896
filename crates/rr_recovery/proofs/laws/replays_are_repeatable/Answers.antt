use Rattle.rr_recovery.proofs.LawLemmas.{replays_are_repeatable}
use Rattle.rr_recovery.proofs.laws.replays_are_repeatable.Goals as goal

pub returns : goal.returns
returns c = replays_are_repeatable
