use Rattle.std.proofs.Common.{rules, ◌≡◌, ap, ◌∙◌, to_z, of_z, w64, pos}
use Rattle.std.specs.Prelude.{unsigned_abs}
use Rattle.std.specs.Int.{int_rem_euclid}
use Rattle.rr_packed.specs.Slots.{row_of}
use Rattle.rr_packed.proofs.blocks.row_of.Goals as goal

pub returns : goal.returns
unfolding row_of
returns c =
    let back : to_z w64 (of_z w64 c.rem_euclid.result) ≡ c.rem_euclid.result = search rules in
    let slot : to_z w64 (of_z w64 c.args.slot) ≡ c.args.slot = search rules in
    ap unsigned_abs (back ∙ c.rem_euclid.ensures.value ∙ ap (λ z. int_rem_euclid z (pos 64)) slot)
