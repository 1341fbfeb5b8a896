use Rattle.std.proofs.Common.{subst}
use Rattle.rr_cells.specs.CellBounds.{IsCellOf}
use Rattle.rr_cells.specs.Listing.{owned_cell}
use Rattle.rr_batch.proofs.peer.join_if.Goals as goal

pub join_cell-requires : goal.join_cell-requires
join_cell-requires g c =
    subst (λ l. IsCellOf l (owned_cell c.args.cell.now)) c.schema.ensures.value
    (c.is_of.ensures.cell.0 c.if-is_of.true)
