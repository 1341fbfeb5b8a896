use Rattle.rr_desk.proofs.RuleLemmas.{sees}
use Rattle.rr_desk.proofs.answers.listed.Goals as goal

pub enter_as-requires : goal.enter_as-requires
enter_as-requires g c x = sees _ _ _
