use Rattle.std.proofs.Common.{sym, subst}
use Rattle.std.specs.Prelude.{All}
use Rattle.rr_cells.specs.CellBounds.{IsCellOf}
use Rattle.rr_cells.specs.Listing.{owned_cell}
use Rattle.rr_tests.proofs.tests.replicas.join_lacking.Goals as goal

-- the two have one schema
pub join_cells-requires : goal.join_cells-requires
join_cells-requires g c =
    subst (λ s. All (λ cell. IsCellOf s (owned_cell cell)) c.deref-2.result.now) (sym c.requires)
    (subst (λ cells. All (λ cell. IsCellOf c.args.other.now.schema (owned_cell cell)) cells)
    (sym c.deref-2.ensures.value) c.in_ok-cells.ensures.of_schema)
