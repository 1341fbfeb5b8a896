-- Cells joined in order, where they are all those of a map.
use Rattle.std.proofs.Common.{◌≡◌, List, [], ◌∷◌, map, refl, ap, ◌∙◌}
use Rattle.rr_cells.specs.declared.cell.Cell.{Cell}
use Rattle.rr_cells.specs.ReplicaState.{ReplicaState, IsReplicaState}
use Rattle.rr_cells.specs.Joining.{with_cell, with_cells}
use Rattle.rr_cells.specs.Joins.{join_cells}
use Rattle.rr_cells.specs.Listing.{owned_cell}
use Rattle.rr_cells.proofs.CellByCell.{join_goes_by_cells}
use Rattle.rr_replica.specs.Joining.{IsJoinedWith}

cells_joined : (h : ReplicaState) (cells : List Cell)
    → (with_cells h cells).cells ≡ join_cells h.schema h.cells (map owned_cell cells)
cells_joined h [] = refl
cells_joined h (c ∷ cells) = cells_joined (with_cell h c) cells

pub joined_with_map : (old new : ReplicaState) (cells : List Cell) → IsReplicaState old → new ≡ with_cells old cells
    → IsJoinedWith old new cells
joined_with_map old new cells holds is m all =
    ap (λ (h : ReplicaState). h.cells) is ∙ cells_joined old cells ∙ ap (join_cells old.schema old.cells) all
    ∙ join_goes_by_cells old.schema old.cells m holds.layout holds.live
