use Rattle.std.proofs.Common.{All, subst, sym, ◌∙◌}
use Rattle.rr_cells.specs.CellBounds.{IsCellOf}
use Rattle.rr_cells.specs.Listing.{owned_cell}
use Rattle.rr_gossip.proofs.giver.Stage.take_end.Goals as goal

pub new-requires-clause-of_schema : goal.new-requires-clause-of_schema
new-requires-clause-of_schema g c =
    subst (λ s. All (λ x. IsCellOf s (owned_cell x)) c.in_ok-cells.cells.items)
    (sym (c.in_ok-schema.ensures.same ∙ c.schema.ensures.value)) c.in_ok-cells.ensures.lists.of_schema
