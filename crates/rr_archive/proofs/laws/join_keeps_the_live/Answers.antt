use Rattle.std.proofs.Common.{◌∙◌}
use Rattle.rr_join.proofs.Joining.{joined_comm, joined_assoc, joined_itself, trimmed-joined}
use Rattle.rr_contrib.specs.Contributions.{contribution_cmp}
use Rattle.rr_contrib.specs.ContributionOrder.{contribution_cmp_total, contribution_cmp-IsAntisymmetric}
use Rattle.rr_archive.proofs.CellSlotOrder.{cell_slot_cmp_total, cell_slot_cmp-IsAntisymmetric}
use Rattle.rr_archive.proofs.Horizon.{live_at_horizon}
use Rattle.rr_archive.proofs.laws.join_keeps_the_live.Goals as goal

pub returns-clause-commutative : goal.returns-clause-commutative
returns-clause-commutative c = λ rows m n some. joined_comm cell_slot_cmp_total cell_slot_cmp-IsAntisymmetric
    contribution_cmp_total contribution_cmp-IsAntisymmetric (live_at_horizon rows some) m n

pub returns-clause-associative : goal.returns-clause-associative
returns-clause-associative c = λ rows l m n some. joined_assoc cell_slot_cmp_total cell_slot_cmp-IsAntisymmetric
    contribution_cmp_total contribution_cmp-IsAntisymmetric (live_at_horizon rows some) l m n

pub returns-clause-idempotent : goal.returns-clause-idempotent
returns-clause-idempotent c = λ rows m some kept. joined_itself cell_slot_cmp_total cell_slot_cmp-IsAntisymmetric
    contribution_cmp_total contribution_cmp-IsAntisymmetric (live_at_horizon rows some) m ∙ kept

pub returns-clause-trimmed : goal.returns-clause-trimmed
returns-clause-trimmed c = λ rows m n some. trimmed-joined cell_slot_cmp_total cell_slot_cmp-IsAntisymmetric
    (live_at_horizon rows some) contribution_cmp m n
