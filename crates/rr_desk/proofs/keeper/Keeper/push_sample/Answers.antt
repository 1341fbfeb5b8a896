use Rattle.std.proofs.Common.{rules, ◌≡◌, ◌+◌, ◌-◌, min, ap, sym, ◌∙◌, to_z, of_z, w64}
use Rattle.std.specs.Prelude.{◌^◌, if◌then◌else◌}
use Rattle.rr_cells.specs.declared.op.Op.TheVariants.{Put}
use Rattle.rr_replica.specs.Horizon.{keeps}
use Rattle.rr_desk.specs.KeeperState.{cells_of}
use Rattle.rr_desk.specs.PastHorizon.{past_horizon_of}
use Rattle.rr_desk.proofs.PastHorizonLemmas.{past_more}
use Rattle.rr_desk.proofs.keeper.Keeper.push_sample.Goals as goal

-- whether the sample is kept was asked of the cells before it
pub invariant_of-self-2 : goal.invariant_of-self-2
invariant_of-self-2 g c =
    let k = c.self.inside.copies in
    let kept : c.keeps_near-is_kept.result ≡ keeps k.schema (cells_of k) c.args.key
    (to_z w64 (of_z w64 c.args.time)) = search rules in
    let lost : c.from.result ≡ (if c.keeps_near-is_kept.result then 0 else 1) = search rules in
    c.saturating_add-self-inside.ensures
    ∙ (λ i. min (c.self.invariant i + (lost ∙ ap (λ b. if b then 0 else 1) kept) i) (2 ^ 64 - 1))
    ∙ past_more k (Put _)
    ∙ ap past_horizon_of (sym c.in_ok-push.ensures.state.made)
