-- The fields of a cell are numbers of 128 bits, and the cell is that of its fields.
use Rattle.std.proofs.Common.{◌≡◌, ℕ, ℤ, pos, negsuc, ◌^◌, ◌<◌, true, false, Ok, refl, arith}
use Rattle.std.specs.Prelude.{FitsSigned, nat_le, ◌==◌}
use Rattle.std.specs.Int.{w64, w128, cast_unsigned}
use Rattle.std.proofs.lemmas.Int.{to_z-of_z, ints}
use Rattle.std.proofs.Math.Facts.{Fits-of_z}
use Rattle.std.proofs.lemmas.Bool.Decides.{nat_tests}
use Rattle.rr_text.specs.Text.{fits_i64}
use Rattle.rr_codec.specs.Fields.{SlotEntry, IsTyped, fields_of, number_below, signed_of, cell_of}
use Rattle.rr_codec.proofs.StepsLemmas.{AreWide}

wider : (z : ℤ) → FitsSigned w64 z → FitsSigned w128 z
wider z fits = omega (arith, ints)

in_i64 : (z : ℤ) → FitsSigned w64 z → fits_i64 z ≡ true
in_i64 (pos n) fits = grind (arith, ints, nat_tests)
in_i64 (negsuc n) fits = grind (arith, ints, nat_tests)

pub signed_again : (z : ℤ) → FitsSigned w64 z → signed_of (cast_unsigned w128 z) ≡ Ok z
signed_again z fits = let wide = wider z fits in rw (to_z-of_z w128 z wide, in_i64 z fits) refl

pub below_again : (bound n : ℕ) → n < bound → number_below bound n ≡ Ok n
below_again bound n lt = let e : nat_le bound n ≡ false = grind (arith, nat_tests) in rw e refl

pub fields_wide : (e : SlotEntry) → IsTyped e → AreWide (fields_of e)
unfolding fields_of
fields_wide e typed = record {
  slot = (Fits-of_z (wider e.0 typed.slot)).fits;
  origin = omega arith;
  version = omega arith;
  count = omega arith;
  sum = (Fits-of_z typed.sum).fits;
  min = (Fits-of_z (wider e.1.contribution.min typed.min)).fits;
  max = (Fits-of_z (wider e.1.contribution.max typed.max)).fits;
  last_time = (Fits-of_z (wider e.1.contribution.last_time typed.last_time)).fits;
  last_value = (Fits-of_z (wider e.1.contribution.last_value typed.last_value)).fits;
  mask = typed.mask;
}

pub cell_of-fields_of : (e : SlotEntry) → IsTyped e → cell_of (fields_of e) ≡ Ok e
unfolding cell_of fields_of
cell_of-fields_of e typed =
    let c = e.1.contribution in
    let some : (e.1.origin == 0) ≡ false = grind (arith, nat_tests, typed.some_origin) in
    rw (
      signed_again e.0 typed.slot,
      below_again (2 ^ 16) e.1.origin typed.origin,
      some,
      below_again (2 ^ 64) c.version typed.version,
      below_again (2 ^ 64) c.count typed.count,
      signed_again c.min typed.min,
      signed_again c.max typed.max,
      signed_again c.last_time typed.last_time,
      signed_again c.last_value typed.last_value,
      to_z-of_z w128 c.sum typed.sum,
    ) refl
