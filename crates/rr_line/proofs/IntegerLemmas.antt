-- What an integer that is read says of its text.
use Rattle.std.proofs.Common.{◌≡◌, true, ◌&&◌, List, ℕ, ℤ, Some, inl, inr}
use Rattle.std.proofs.lemmas.Bool.{cases_Bool, and_parts}
use Rattle.std.specs.Str.Parse.{signed_digits_value}
use Rattle.rr_text.specs.Text.{is_digits, unsigned, fits_i64, integer_at}

pub read_from_digits : (text : List ℕ) (number : ℤ) → Some number ≡ integer_at text
    → (is_digits (unsigned text) ≡ true) × (signed_digits_value 10 text ≡ number)
read_from_digits text number read =
    elim (cases_Bool (is_digits (unsigned text) && fits_i64 (signed_digits_value 10 text))) [
      | inl both ↦ let is = rw both at read in ((and_parts _ _ both).0, cc)
      | inr none ↦ let is = rw none at read in absurd cc
    ]
