use Rattle.std.proofs.Common.{subst}
use Rattle.rr_schema.specs.Schema.{Layout}
use Rattle.rr_cells.specs.CellBounds.{IsCellOf}
use Rattle.rr_cells.specs.Listing.{owned_cell}
use Rattle.rr_replica.proofs.replica.Replica.apply_cell.Goals as goal

pub join_cell-requires : goal.join_cell-requires
join_cell-requires g c =
    subst (λ (s : Layout). IsCellOf s (owned_cell c.args.cell.now)) c.schema.ensures.value
    (c.is_of.ensures.cell.0 c.if-not-is_of.false)
