-- The laws of the join of two maps of cells.
use Rattle.std.proofs.Common.{sym, ap, ◌∙◌}
use Rattle.std.specs.FinMap.{same_map}
use Rattle.rr_schema.specs.Schema.{archive_at}
use Rattle.rr_join.specs.Maps as Maps
use Rattle.rr_join.specs.Maps.{greater, merged, trimmed}
use Rattle.rr_join.proofs.Joining.{joined_comm, joined_assoc, joined_itself, trimmed-joined}
use Rattle.rr_join.proofs.Lookups.{get-merged}
use Rattle.rr_contrib.specs.Contributions.{contribution_cmp}
use Rattle.rr_contrib.specs.ContributionOrder.{contribution_cmp_total, contribution_cmp-IsAntisymmetric}
use Rattle.rr_archive.specs.CellSlots.{is_live_at}
use Rattle.rr_archive.proofs.CellSlotOrder.{cell_slot_cmp_total, cell_slot_cmp-IsAntisymmetric}
use Rattle.rr_cells.proofs.Orders.{cell_name_cmp_total, cell_name_cmp-IsAntisymmetric}
use Rattle.rr_cells.proofs.Horizon.{live_horizon}
use Rattle.rr_cells.specs.Cells.{name_at, archive_cells}
use Rattle.rr_cells.specs.Laws.{CellJoinIsCommutative, CellJoinIsAssociative, CellJoinIsIdempotent, CellJoinIsTrimmed, JoinGoesByArchives, JoinUnites}
use Rattle.rr_cells.proofs.Local.{get-archive_cells, trimmed_local}
use Rattle.rr_cells.proofs.Uniting.{join_states}

pub join_commutes : CellJoinIsCommutative
join_commutes s m n is = joined_comm cell_name_cmp_total cell_name_cmp-IsAntisymmetric contribution_cmp_total
    contribution_cmp-IsAntisymmetric (live_horizon s is) m n

pub join_associates : CellJoinIsAssociative
join_associates s l m n is = joined_assoc cell_name_cmp_total cell_name_cmp-IsAntisymmetric contribution_cmp_total
    contribution_cmp-IsAntisymmetric (live_horizon s is) l m n

pub join_itself : CellJoinIsIdempotent
join_itself s m is kept = joined_itself cell_name_cmp_total cell_name_cmp-IsAntisymmetric contribution_cmp_total
    contribution_cmp-IsAntisymmetric (live_horizon s is) m ∙ kept

pub join_trims : CellJoinIsTrimmed
join_trims s m n is = trimmed-joined cell_name_cmp_total cell_name_cmp-IsAntisymmetric (live_horizon s is)
    contribution_cmp m n

pub join_goes_by_archives : JoinGoesByArchives
unfolding Maps.joined
join_goes_by_archives s m n key archive is =
    trimmed_local key archive s is (merged contribution_cmp m n)
    ∙ ap (trimmed (is_live_at (archive_at s archive).rows))
    (same_map cell_slot_cmp_total cell_slot_cmp-IsAntisymmetric _ _ (λ p.
    get-archive_cells key archive (merged contribution_cmp m n) p
    ∙ get-merged cell_name_cmp_total cell_name_cmp-IsAntisymmetric contribution_cmp m n (name_at key archive p)
    ∙ (λ i. greater contribution_cmp (sym (get-archive_cells key archive m p) i)
    (sym (get-archive_cells key archive n p) i))
    ∙ sym (get-merged cell_slot_cmp_total cell_slot_cmp-IsAntisymmetric contribution_cmp (archive_cells m key archive)
    (archive_cells n key archive) p)))

pub join_unites : JoinUnites
join_unites s w k l is ck cl = join_states s is w k l ck cl
