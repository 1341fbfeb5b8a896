use Rattle.rr_join.proofs.Joining.{merged_comm, merged_assoc, merged_itself}
use Rattle.rr_contrib.specs.ContributionOrder.{contribution_cmp_total, contribution_cmp-IsAntisymmetric}
use Rattle.rr_archive.proofs.CellSlotOrder.{cell_slot_cmp_total, cell_slot_cmp-IsAntisymmetric}
use Rattle.rr_archive.proofs.laws.merge_keeps_the_greater.Goals as goal

pub returns-clause-commutative : goal.returns-clause-commutative
returns-clause-commutative c = merged_comm cell_slot_cmp_total cell_slot_cmp-IsAntisymmetric contribution_cmp_total
    contribution_cmp-IsAntisymmetric

pub returns-clause-associative : goal.returns-clause-associative
returns-clause-associative c = merged_assoc cell_slot_cmp_total cell_slot_cmp-IsAntisymmetric contribution_cmp_total
    contribution_cmp-IsAntisymmetric

pub returns-clause-idempotent : goal.returns-clause-idempotent
returns-clause-idempotent c = merged_itself cell_slot_cmp_total cell_slot_cmp-IsAntisymmetric contribution_cmp_total
    contribution_cmp-IsAntisymmetric
