-- What CSV writes as it is.
use Rattle.std.proofs.Common.{◌≡◌, ℕ, ℤ, pos, negsuc, suc, ◌<◌, false, eqb, List, [], ◌∷◌, ◌++◌, refl, subst, arith, inl, inr}
use Rattle.std.specs.Char.{digit_value}
use Rattle.std.specs.Fmt.{decimal, signed_decimal}
use Rattle.std.specs.Int.{w64}
use Rattle.std.proofs.lemmas.Int.{ints}
use Rattle.std.specs.Prelude.{FitsSigned}
use Rattle.std.specs.Str.Parse.{AllDigits}
use Rattle.std.proofs.lemmas.Bool.{cases_Bool, eqb-true}
use Rattle.std.proofs.lemmas.Fmt.{decimal_is_IsNumeral}
use Rattle.rr_cells.specs.FetchText.{is_special}
use Rattle.rr_fetch.specs.Records.{IsPlain}

-- no digit is a special byte
plain_digit : (byte : ℕ) → digit_value byte < 10 → is_special byte ≡ false
plain_digit byte digit =
    let other : (special : ℕ) → (digit_value special < 10 → ⊥) → eqb byte special ≡ false = λ special bad.
    elim (cases_Bool (eqb byte special)) [
      | inl same ↦ absurd (bad (subst (λ (b : ℕ). digit_value b < 10) (eqb-true byte special same) digit))
      | inr differs ↦ differs
    ] in
    let comma = other 44 (λ h. absurd (omega arith)) in
    let quote = other 34 (λ h. absurd (omega arith)) in
    let return = other 13 (λ h. absurd (omega arith)) in
    let feed = other 10 (λ h. absurd (omega arith)) in
    rw (comma, quote, return, feed) refl

pub plain_digits : (text : List ℕ) → AllDigits 10 text → IsPlain text
plain_digits [] all = refl
plain_digits (byte ∷ text) all = rw (plain_digit byte all.0, plain_digits text all.1) refl

-- an integer of 64 bits is plain
pub plain_signed : (n : ℤ) → FitsSigned w64 n → IsPlain (signed_decimal n)
plain_signed (pos n) fits = plain_digits (decimal n) (decimal_is_IsNumeral n (omega (arith, ints))).0.1
plain_signed (negsuc n) fits = plain_digits (decimal (suc n)) (decimal_is_IsNumeral (suc n) (omega (arith, ints))).0.1

-- plain texts side by side are plain
pub plain_append : (first second : List ℕ) → IsPlain first → IsPlain second → IsPlain (first ++ second)
plain_append [] second plain more = more
plain_append (b ∷ first) second plain more =
    elim (cases_Bool (is_special b)) [
      | inl special ↦ cc (rw special at plain)
      | inr other ↦ rw other (plain_append first second (rw other at plain) more)
    ]
