-- Numbers that are read digit by digit are those of `number_at`.
use Rattle.std.proofs.Common.{◌≡◌, ℕ, ◌+◌, ◌*◌, ◌^◌, ◌<◌, ◌≤◌, ◌==◌, true, not, ltb, List, [], ◌∷◌, length, get_or, Some, None, refl, arith, inl, inr}
use Rattle.std.proofs.lemmas.Bool.{and_right, cases_Bool, ltb-false, le-ltb, lt-ltb}
use Rattle.std.specs.Char.{is_ascii_digit, digit_value}
use Rattle.std.specs.List.{list_all}
use Rattle.std.specs.Str.Parse.{digits_value_after}
use Rattle.rr_text.specs.Digits.{with_digit, with_digits}
use Rattle.rr_text.specs.Text.{number_at}

-- more digits make no smaller number
digits_grow : (number : ℕ) (digits : List ℕ) → number ≤ digits_value_after 10 number digits
digits_grow number [] = omega arith
digits_grow number (digit ∷ digits) =
    let more = digits_grow (number * 10 + digit_value digit) digits in
    omega arith

-- where the first digit isn't taken, no number is read
pub with_digits-none : (number : ℕ) (digits : List ℕ) → 1 ≤ length digits → with_digit number (get_or digits 0 0) ≡ None
    → with_digits number digits ≡ None
with_digits-none number [] some refused = absurd (omega arith)
with_digits-none number (digit ∷ digits) some refused =
    elim (cases_Bool (is_ascii_digit digit)) [
      | inr other ↦ rw other refl
      | inl is ↦
          elim (cases_Bool (ltb (number * 10 + digit_value digit) (2 ^ 64))) [
            | inl fits ↦ let taken = rw (is, fits) at refused in absurd cc
            | inr over ↦
                let least = ltb-false _ _ over in
                let more = digits_grow (number * 10 + digit_value digit) digits in
                let large : 2 ^ 64 ≤ digits_value_after 10 (number * 10 + digit_value digit) digits = omega arith in
                rw (and_right (list_all is_ascii_digit (digit ∷ digits)) _ (le-ltb _ _ large)) refl
          ]
    ]

-- after the last digit the number is whole
pub with_digits-whole : (number : ℕ) (digits : List ℕ) → length digits < 1 → number < 2 ^ 64
    → with_digits number digits ≡ Some number
with_digits-whole number [] none fits = rw (lt-ltb _ _ fits) refl
with_digits-whole number (digit ∷ digits) none fits = absurd (omega arith)

-- some digits are read from 0 on
pub with_digits-number : (text : List ℕ) → not (length text == 0) ≡ true → with_digits 0 text ≡ number_at text
with_digits-number text some = rw some refl
