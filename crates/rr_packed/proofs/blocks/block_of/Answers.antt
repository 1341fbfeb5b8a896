use Rattle.std.proofs.Common.{rules, ◌≡◌, ap, ◌∙◌, to_z, of_z, w64, pos}
use Rattle.std.specs.Int.{int_div_euclid}
use Rattle.rr_packed.specs.Slots.{block_of}
use Rattle.rr_packed.proofs.blocks.block_of.Goals as goal

pub returns : goal.returns
unfolding block_of
returns c =
    let back : to_z w64 (of_z w64 c.div_euclid.result) ≡ c.div_euclid.result = search rules in
    let slot : to_z w64 (of_z w64 c.args.slot) ≡ c.args.slot = search rules in
    back ∙ c.div_euclid.ensures ∙ ap (λ z. int_div_euclid z (pos 64)) slot
