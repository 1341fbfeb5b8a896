-- Eleven steps that were written are read again, whatever follows them.
use Rattle.std.proofs.Common.{◌≡◌, ℕ, ◌+◌, ◌*◌, ◌/◌, ◌%◌, ◌^◌, ◌<◌, ◌≤◌, Bool, true, false, List, ◌++◌, Ok, refl, sym, ap, ◌∙◌, append_assoc, arith}
use Rattle.std.specs.Prelude.{◌==◌, nat_le}
use Rattle.std.proofs.lemmas.Bool.{eqb-true, lt-leb}
use Rattle.std.proofs.lemmas.Bool.Decides.{nat_tests}
use Rattle.rr_codec.specs.declared.fields.Fields.{Fields}
use Rattle.rr_codec.specs.declared.steps.Steps.{Steps}
use Rattle.rr_codec.specs.Numbers.{number_text}
use Rattle.rr_codec.specs.Steps.{flagged, flags_at, flags_of, step_text, steps_text, step_at, steps_at}
use Rattle.rr_codec.proofs.NumberLemmas.{number_again}

-- numbers of 128 bits
pub record AreWide (f : Fields) : Type 0 where
  pub slot : f.slot < 2 ^ 128
  pub origin : f.origin < 2 ^ 128
  pub version : f.version < 2 ^ 128
  pub count : f.count < 2 ^ 128
  pub sum : f.sum < 2 ^ 128
  pub min : f.min < 2 ^ 128
  pub max : f.max < 2 ^ 128
  pub last_time : f.last_time < 2 ^ 128
  pub last_value : f.last_value < 2 ^ 128
  pub mask : f.mask < 2 ^ 128

-- the steps are
pub record AreWideSteps (s : Steps) : Type 0 where
  pub place : s.place < 2 ^ 128
  pub fields : AreWide s.fields

pub step_again : (step others : ℕ) (rest : List ℕ) → step < 2 ^ 128
    → step_at (flagged step others) (step_text step ++ rest) ≡ Ok (step, others, rest)
step_again step others rest fits = by_flag (step == 0) refl
  where
    by_flag : (t : Bool) → (step == 0) ≡ t
        → step_at (flagged step others) (step_text step ++ rest) ≡ Ok (step, others, rest)
    by_flag true e =
        let none : step ≡ 0 = eqb-true _ _ e in
        let even : ((0 + 2 * others) % 2 == 0) ≡ true = grind (arith, nat_tests) in
        let half : (0 + 2 * others) / 2 ≡ others = omega arith in
        rw (e, even) (ap (λ (n : ℕ). Ok (n, (0 + 2 * others) / 2, rest)) (sym none)
        ∙ ap (λ (n : ℕ). Ok (step, n, rest)) half)
    by_flag false e =
        let odd : ((1 + 2 * others) % 2 == 0) ≡ false = grind (arith, nat_tests) in
        let half : (1 + 2 * others) / 2 ≡ others = omega arith in
        rw (e, odd, number_again step rest fits, e) (ap (λ (n : ℕ). Ok (step, n, rest)) half)

flag_le : (step others : ℕ) → flagged step others ≤ 1 + 2 * others
flag_le step others = grind (arith, nat_tests)

flag_up : (step others bound : ℕ) → others < bound → flagged step others < 2 * bound
flag_up step others bound lt = let le = flag_le step others in omega arith

-- the flags from each field on
abbrev from_place : Steps → ℕ
from_place s = flagged s.place (flagged s.fields.origin 0)

abbrev from_count : Steps → ℕ
from_count s = flagged s.fields.count (flagged s.fields.mask (flagged s.fields.slot (from_place s)))

abbrev from_max : Steps → ℕ
from_max s = flagged s.fields.max (flagged s.fields.sum (from_count s))

pub flags_below : (s : Steps) → flags_of s < 2 ^ 11
flags_below s =
    flag_up s.fields.last_value _ 1024 (flag_up s.fields.version _ 512 (flag_up s.fields.last_time _ 256
    (flag_up s.fields.min _ 128 (flag_up s.fields.max _ 64 (flag_up s.fields.sum _ 32 (flag_up s.fields.count _ 16
    (flag_up s.fields.mask _ 8 (flag_up s.fields.slot _ 4 (flag_up s.place _ 2
    (flag_up s.fields.origin 0 1 (omega arith)))))))))))

flags_again : (s : Steps) (rest : List ℕ) → flags_at (number_text (flags_of s) ++ rest) ≡ Ok (flags_of s, rest)
flags_again s rest =
    let few = flags_below s in
    let fits : flags_of s < 2 ^ 128 = less (flags_of s) few in
    let small : nat_le (2 ^ 11) (flags_of s) ≡ false = lt-leb _ _ few in
    rw (number_again (flags_of s) rest fits, small) refl
  where
    less : (n : ℕ) → n < 2 ^ 11 → n < 2 ^ 128
    less n lt = omega arith

-- what follows the flags, with what follows the steps
abbrev pub place_on : Steps → List ℕ → List ℕ
place_on s rest = step_text s.place ++ (step_text s.fields.origin ++ rest)

abbrev pub mask_on : Steps → List ℕ → List ℕ
mask_on s rest = step_text s.fields.mask ++ (step_text s.fields.slot ++ place_on s rest)

abbrev pub sum_on : Steps → List ℕ → List ℕ
sum_on s rest = step_text s.fields.sum ++ (step_text s.fields.count ++ mask_on s rest)

abbrev pub min_on : Steps → List ℕ → List ℕ
min_on s rest = step_text s.fields.min ++ (step_text s.fields.max ++ sum_on s rest)

abbrev pub version_on : Steps → List ℕ → List ℕ
version_on s rest = step_text s.fields.version ++ (step_text s.fields.last_time ++ min_on s rest)

abbrev pub last_value_on : Steps → List ℕ → List ℕ
last_value_on s rest = step_text s.fields.last_value ++ version_on s rest

pub regrouped : (s : Steps) (rest : List ℕ) → steps_text s ++ rest ≡ number_text (flags_of s) ++ last_value_on s rest
unfolding steps_text
regrouped s rest = simp append_assoc

read : (s : Steps) (rest : List ℕ) → AreWideSteps s
    → steps_at (number_text (flags_of s) ++ last_value_on s rest) ≡ Ok (s, rest)
unfolding steps_at
read s rest wide =
    let f = s.fields in
    rw (
      flags_again s (last_value_on s rest),
      step_again f.last_value (flagged f.version (flagged f.last_time (flagged f.min (from_max s)))) (version_on s rest)
          wide.fields.last_value,
      step_again f.version (flagged f.last_time (flagged f.min (from_max s))) (step_text f.last_time ++ min_on s rest)
          wide.fields.version,
      step_again f.last_time (flagged f.min (from_max s)) (min_on s rest) wide.fields.last_time,
      step_again f.min (from_max s) (step_text f.max ++ sum_on s rest) wide.fields.min,
      step_again f.max (flagged f.sum (from_count s)) (sum_on s rest) wide.fields.max,
      step_again f.sum (from_count s) (step_text f.count ++ mask_on s rest) wide.fields.sum,
      step_again f.count (flagged f.mask (flagged f.slot (from_place s))) (mask_on s rest) wide.fields.count,
      step_again f.mask (flagged f.slot (from_place s)) (step_text f.slot ++ place_on s rest) wide.fields.mask,
      step_again f.slot (from_place s) (place_on s rest) wide.fields.slot,
      step_again s.place (flagged f.origin 0) (step_text f.origin ++ rest) wide.place,
      step_again f.origin 0 rest wide.fields.origin,
    ) refl

pub steps_again : (s : Steps) (rest : List ℕ) → AreWideSteps s → steps_at (steps_text s ++ rest) ≡ Ok (s, rest)
steps_again s rest wide = ap steps_at (regrouped s rest) ∙ read s rest wide
