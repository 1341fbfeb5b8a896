use Rattle.std.proofs.Common.{subst}
use Rattle.rr_cells.specs.CellBounds.{IsCellOf}
use Rattle.rr_cells.specs.Listing.{owned_cell}
use Rattle.rr_tests.proofs.tests.lying.are_joined.Goals as goal

-- each was tested by the schema of the replica
pub join_either_way-requires-clause-first : goal.join_either_way-requires-clause-first
join_either_way-requires-clause-first c =
    subst (λ s. IsCellOf s (owned_cell c.args.first.now)) c.schema.ensures.value
    (c.is_of.ensures.cell.0 c.if-not-is_of.false)

pub join_either_way-requires-clause-second : goal.join_either_way-requires-clause-second
join_either_way-requires-clause-second c =
    subst (λ s. IsCellOf s (owned_cell c.args.second.now)) c.schema-2.ensures.value
    (c.is_of-2.ensures.cell.0 c.if-not-is_of-2.false)
