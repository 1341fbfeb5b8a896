use Rattle.rr_desk.proofs.RuleLemmas.{forks, merges}
use Rattle.rr_desk.proofs.writing.introduce.Goals as goal

pub tell-requires : goal.tell-requires
tell-requires g c x = forks _ _ _

pub learn-requires-clause-rule : goal.learn-requires-clause-rule
learn-requires-clause-rule g c x = merges _ _ _ _ _
