use Rattle.std.proofs.Common.{rules, arith, ◌≡◌, pos, refl, to_z, of_z, w64}
use Rattle.std.proofs.lemmas.Int.{fits_signed_mul, to_z-of_z}
use Rattle.rr_fetch.proofs.answering.start_of.Goals as goal

pub overflow_mul-result : goal.overflow_mul-result
overflow_mul-result c =
    let slot : to_z w64 (of_z w64 c.args.slot) ≡ c.args.slot = search rules in
    let span : to_z w64 (of_z w64 c.from.result) ≡ pos c.args.span = search rules in
    rw (slot, span) (fits_signed_mul w64 c.args.slot (pos c.args.span) _ _ c.requires.slot_near c.requires.span_fits
    (omega arith))

pub returns : goal.returns
returns c =
    let slot : to_z w64 (of_z w64 c.args.slot) ≡ c.args.slot = search rules in
    let span : to_z w64 (of_z w64 c.from.result) ≡ pos c.args.span = search rules in
    let back = to_z-of_z w64 _ (overflow_mul-result c) in
    rw (back, slot, span) refl
