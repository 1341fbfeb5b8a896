use Rattle.std.proofs.Common.{◌≡◌, [], ◌∷◌, None, refl, ◌∙◌}
use Rattle.rr_recovery.specs.Found.{end_after, last_end}
use Rattle.rr_replication.specs.Laws.{OnlyTheLastEnds, PartsEndAsOne}
use Rattle.rr_replication.proofs.laws.only_a_last_end_counts.Goals as goal

as_one : PartsEndAsOne
as_one before [] ns = refl
as_one before (m ∷ ms) ns = as_one (end_after None m) ms ns

pub returns-clause-last : goal.returns-clause-last
returns-clause-last c = λ before ms m. as_one before ms (m ∷ [])

pub returns-clause-parts : goal.returns-clause-parts
returns-clause-parts c = as_one
