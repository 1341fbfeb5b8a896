use Rattle.std.proofs.Common.{true, ◌≡◌, ap, sym, ◌∙◌, subst}
use Rattle.rr_schema.specs.Schema.{Layout}
use Rattle.rr_cells.specs.declared.cell.Cell.{Cell}
use Rattle.rr_cells.specs.CellBounds.{is_cell_of}
use Rattle.rr_cells.specs.Listing.{owned_cell}
use Rattle.rr_cells.proofs.OperationsLemmas.{cell_is_taken}
use Rattle.rr_desk.specs.PastHorizon.{past_horizon_of}
use Rattle.rr_desk.proofs.PastHorizonLemmas.{past_joined}
use Rattle.rr_desk.proofs.keeper.Keeper.join_cell.Goals as goal

pub push-requires : goal.push-requires
push-requires g c =
    let s = c.args.self.now.schema in
    let may = subst (λ (x : Cell). is_cell_of s (owned_cell x) ≡ true) (sym (c.in_ok-copy.ensures))
    (cell_is_taken s (owned_cell c.args.cell.now) c.requires) in
    subst (λ (l : Layout). is_cell_of l (owned_cell c.in_ok-copy.field-0) ≡ true)
    (sym (ap (λ k. k.schema) c.self.view_is)) may

pub invariant_of-self-2 : goal.invariant_of-self-2
invariant_of-self-2 g c = c.self.invariant ∙ past_joined c.self.inside.copies c.in_ok-copy.field-0
    ∙ ap past_horizon_of (sym c.in_ok-push.ensures.state.made)
