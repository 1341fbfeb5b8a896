-- The digits at the beginning of a text.
use Rattle.std.specs.Prelude.{◌≡◌, ℕ, true, List, ◌∷◌, ◌++◌, Some}
use Rattle.std.specs.Char.{is_ascii_digit, digit_value}
use Rattle.rr_text.specs.Text.{number_at}

-- text = digit rest
pub record IsDigit (text : List ℕ) (value : ℕ) (rest : List ℕ) : Type 0 where
  pub digit : ℕ
  pub is : is_ascii_digit digit ≡ true
  pub same : value ≡ digit_value digit
  pub whole : text ≡ digit ∷ rest

-- text = digits rest, and the digits write the number
pub record IsNumber (text : List ℕ) (number : ℕ) (rest : List ℕ) : Type 0 where
  pub digits : List ℕ
  pub writes : number_at digits ≡ Some number
  pub whole : text ≡ digits ++ rest
