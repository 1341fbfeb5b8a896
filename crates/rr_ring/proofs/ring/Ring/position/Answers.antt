use Rattle.std.proofs.Common.{rules, ◌≡◌, ap, ◌∙◌, to_z, of_z, w64}
use Rattle.std.specs.Prelude.{unsigned_abs}
use Rattle.std.specs.Int.{int_rem_euclid}
use Rattle.rr_ring.specs.Positions.{position_of}
use Rattle.rr_ring.proofs.ring.Ring.position.Goals as goal

pub returns-clause-position : goal.returns-clause-position
unfolding position_of
returns-clause-position c =
    let back : to_z w64 (of_z w64 c.rem_euclid.result) ≡ c.rem_euclid.result = search rules in
    let slot : to_z w64 (of_z w64 c.args.slot) ≡ c.args.slot = search rules in
    let rows : to_z w64 (of_z w64 c.from.result) ≡ c.from.result = search rules in
    ap unsigned_abs (back ∙ c.rem_euclid.ensures.value ∙ (λ i. int_rem_euclid (slot i) ((rows ∙ c.from.ensures) i)))
