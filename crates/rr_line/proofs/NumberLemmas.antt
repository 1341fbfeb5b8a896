-- An integer that is read digit by digit is a value of the grammar.
use Rattle.std.proofs.Common.{◌≡◌, ℕ, ◌+◌, ◌-◌, ◌*◌, ◌^◌, ◌<◌, ℤ, true, false, eqb, ◌==◌, List, [], ◌∷◌, ◌++◌, length, length-append, take, Option, Some, refl, sym, ap, ◌∙◌, inl, inr, arith}
use Rattle.std.proofs.lemmas.Bool.{cases_Bool, eqb-true, lt-ltb, and_parts}
use Rattle.std.proofs.lemmas.Bool.Decides.{nat_tests}
use Rattle.std.proofs.lemmas.Int.Digits.{digits_value_push}
use Rattle.std.proofs.lemmas.List.{append_assoc}
use Rattle.std.specs.Char.{is_ascii_digit}
use Rattle.std.specs.Prelude.{ok_or}
use Rattle.std.specs.List.{list_all, list_any}
use Rattle.std.specs.Str.Parse.{digits_value}
use Rattle.rr_text.specs.Bytes.{begins}
use Rattle.rr_text.specs.declared.bytes.TheConstants.{MINUS}
use Rattle.rr_text.specs.Text.{is_digits, number_at, unsigned, integer_at}
use Rattle.rr_line.specs.declared.fault.LineFault.TheVariants.{IntegerRange}
use Rattle.rr_line.specs.declared.mark.TheConstants.{INTEGER_MARK, QUOTE}
use Rattle.rr_line.specs.Integer.{IsDigit, IsNumber}
use Rattle.std.proofs.lemmas.List.Folds.{list_any-append}
use Rattle.rr_line.proofs.IntegerLemmas.{read_from_digits}
use Rattle.rr_line.proofs.KeyPrefixLemmas.{prefix_taken}
use Rattle.rr_line.proofs.PartLemmas.{not_zero, before_last_there}
use Rattle.rr_line.specs.Value.{IsValue, EndsValue, ends_value, value_of}

-- text = digits left, and the digits so far write the number
pub record HasPassed (text : List ℕ) (number : ℕ) (left : List ℕ) : Type 0 where
  pub digits : List ℕ
  pub are : list_all is_ascii_digit digits ≡ true
  pub writes : number ≡ digits_value 10 digits
  pub fits : number < 2 ^ 64
  pub whole : text ≡ digits ++ left

all_push : (digits : List ℕ) (digit : ℕ) → list_all is_ascii_digit digits ≡ true → is_ascii_digit digit ≡ true
    → list_all is_ascii_digit (digits ++ digit ∷ []) ≡ true
all_push [] digit are is = rw is refl
all_push (first ∷ digits) digit are is =
    let parts = and_parts (is_ascii_digit first) (list_all is_ascii_digit digits) are in
    rw (parts.0, all_push digits digit parts.1 is) refl

-- one digit more
pub passed_more : (text : List ℕ) (number value : ℕ) (left rest : List ℕ) → HasPassed text number left
    → IsDigit left value rest → number * 10 + value < 2 ^ 64
    → HasPassed text (number * 10 + value) rest
passed_more text number value left rest h d fits = record {
  digits = h.digits ++ d.digit ∷ [];
  are = all_push h.digits d.digit h.are d.is;
  writes = omega (arith, digits_value_push 10 h.digits d.digit, h.writes, d.same);
  fits = fits;
  whole = h.whole ∙ ap (λ (t : List ℕ). h.digits ++ t) d.whole ∙ simp append_assoc;
}

-- after some digits
pub passed_some : (text : List ℕ) (number : ℕ) (left : List ℕ) → HasPassed text number left
    → length left < length text → IsNumber text number left
passed_some text number left h some =
    let len = length-append h.digits left in
    let there : (length h.digits == 0) ≡ false =
    not_zero (length h.digits) (length h.digits) refl (omega (arith, len, ap length h.whole)) in
    record {
      digits = h.digits;
      writes = rw (there, h.are, sym h.writes, lt-ltb _ _ h.fits) refl;
      whole = h.whole;
    }

-- a digit ends no value, and is no minus and no quote
digit_stays : (byte : ℕ) → is_ascii_digit byte ≡ true
    → (ends_value byte ≡ false) × (eqb byte MINUS ≡ false) × (eqb byte QUOTE ≡ false)
digit_stays byte is = (grind (arith, nat_tests), grind (arith, nat_tests), grind (arith, nat_tests))

plain_digits : (digits : List ℕ) → list_all is_ascii_digit digits ≡ true → list_any ends_value digits ≡ false
plain_digits [] are = refl
plain_digits (digit ∷ digits) are =
    let parts = and_parts (is_ascii_digit digit) (list_all is_ascii_digit digits) are in
    rw ((digit_stays digit parts.0).0, plain_digits digits parts.1) refl

-- digits are a digit and others
digits_are : (digit : ℕ) (digits : List ℕ) → is_digits (digit ∷ digits) ≡ true
    → (is_ascii_digit digit ≡ true) × (list_all is_ascii_digit (digit ∷ digits) ≡ true)
digits_are digit digits is =
    let all = (and_parts _ (list_all is_ascii_digit (digit ∷ digits)) is).1 in
    ((and_parts (is_ascii_digit digit) (list_all is_ascii_digit digits) all).0, all)

-- text = prefix rest, and these are the digits of the prefix
pub record HasDigits (text digits rest : List ℕ) : Type 0 where
  pub prefix : List ℕ
  pub without_sign : unsigned prefix ≡ digits
  pub whole : text ≡ prefix ++ rest

-- what precedes the rest is the digits, with a minus or not
pub sign_of : (text digits rest : List ℕ) → unsigned text ≡ digits ++ rest → is_digits digits ≡ true
    → HasDigits text digits rest
sign_of text [] rest e is = absurd cc
sign_of [] (digit ∷ digits) rest e is = absurd cc
sign_of (byte ∷ text) (digit ∷ digits) rest e is =
    elim (cases_Bool (eqb byte MINUS)) [
      | inl minus ↦ record {
        prefix = byte ∷ digit ∷ digits;
        without_sign = rw minus refl;
        whole = ap (λ (t : List ℕ). byte ∷ t) (rw minus at e);
      }
      | inr plain ↦ record {
        prefix = digit ∷ digits;
        without_sign = rw (digit_stays digit (digits_are digit digits is).0).1 refl;
        whole = rw plain at e;
      }
    ]

-- the digits that write a number
pub number_digits : (digits : List ℕ) (number : ℕ) → number_at digits ≡ Some number → is_digits digits ≡ true
number_digits digits number writes =
    elim (cases_Bool (is_digits digits)) [
      | inl is ↦ is
      | inr none ↦ absurd (let at = rw none at writes in cc)
    ]

-- an integer has no byte that ends a value, and no quote at its beginning
record IsPlainInteger (prefix rest : List ℕ) : Type 0 where
  pub plain : list_any ends_value prefix ≡ false
  pub bare : begins QUOTE (prefix ++ rest) ≡ false

plain_integer : (prefix rest : List ℕ) → is_digits (unsigned prefix) ≡ true → IsPlainInteger prefix rest
plain_integer [] rest is = absurd cc
plain_integer (byte ∷ prefix) rest is =
    elim (cases_Bool (eqb byte MINUS)) [
      | inl minus ↦
          let same = eqb-true byte MINUS minus in
          let after : is_digits prefix ≡ true = rw minus at is in
          let all = (and_parts _ (list_all is_ascii_digit prefix) after).1 in
          record { plain = rw (same, plain_digits prefix all) refl; bare = rw same refl }
      | inr other ↦
          let digits = digits_are byte prefix (rw other at is) in
          let stays = digit_stays byte digits.0 in
          record { plain = plain_digits (byte ∷ prefix) digits.1; bare = stays.2 }
    ]

value_marked : (prefix : List ℕ) → is_digits (unsigned prefix) ≡ true
    → value_of (prefix ++ INTEGER_MARK ∷ []) ≡ ok_or (integer_at prefix) IntegerRange
value_marked prefix is =
    let marked = before_last_there INTEGER_MARK prefix INTEGER_MARK in
    rw (marked, is) refl

-- an integer and its mark are a value
pub integer_value : (text prefix rest : List ℕ) (number : ℤ) → text ≡ prefix ++ INTEGER_MARK ∷ rest → EndsValue rest
    → Some number ≡ integer_at prefix
    → IsValue text number rest
integer_value text prefix rest number whole ended read =
    let is = read_from_digits prefix number read in
    let plain = plain_integer prefix (INTEGER_MARK ∷ rest) is.0 in (
      prefix ++ INTEGER_MARK ∷ [],
      record {
        bare = ap (begins QUOTE) whole ∙ plain.bare;
        plain = list_any-append ends_value prefix (INTEGER_MARK ∷ []) ∙ rw plain.plain refl;
        ended = ended;
        whole = whole ∙ simp append_assoc;
      },
      value_marked prefix is.0 ∙ ap (λ (o : Option ℤ). ok_or o IntegerRange) (sym read),
    )

-- the digits of a number that was read, with what may be their sign, and what precedes the rest
pub record IsRead (text : List ℕ) (number : ℕ) (rest : List ℕ) : Type 0 where
  pub prefix : List ℕ
  pub taken : take (length text - length rest) text ≡ prefix
  pub writes : number_at (unsigned prefix) ≡ Some number
  pub whole : text ≡ prefix ++ rest

pub is_read : (text digits : List ℕ) (number : ℕ) (rest : List ℕ) → digits ≡ unsigned text
    → IsNumber digits number rest → IsRead text number rest
is_read text digits number rest without h =
    let sign = sign_of text h.digits rest (sym without ∙ h.whole) (number_digits h.digits number h.writes) in
    record {
      prefix = sign.prefix;
      taken = prefix_taken text sign.prefix rest sign.whole;
      writes = ap number_at sign.without_sign ∙ h.writes;
      whole = sign.whole;
    }
