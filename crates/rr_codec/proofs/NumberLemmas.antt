-- A number that was written is read again, whatever follows it.
use Rattle.std.proofs.Common.{◌≡◌, ℕ, zero, suc, ◌+◌, ◌-◌, ◌*◌, ◌/◌, ◌%◌, ◌^◌, ◌<◌, ◌≤◌, true, false, List, [], ◌∷◌, ◌++◌, length, Ok, Err, inl, inr, refl, ap, ◌∙◌, arith}
use Rattle.std.specs.Prelude.{nat_lt, Result}
use Rattle.std.proofs.Math.Nat as nat
use Rattle.std.proofs.lemmas.Nat.{div_below}
use Rattle.std.proofs.lemmas.Bool.{cases_lt, lt-ltb, le-ltb}
use Rattle.std.proofs.lemmas.Bool.Decides.{nat_tests}
use Rattle.rr_text.specs.Results.{◌>>=◌, unless}
use Rattle.rr_codec.specs.declared.fault.CodecFault.{CodecFault}
use Rattle.rr_codec.specs.declared.fault.CodecFault.TheVariants.{Short, BadNumber}
use Rattle.rr_codec.specs.Numbers.{is_bad_high, number_text_within, number_text, number_within, number_at}

-- the bound of what is left, after seven bits
pub next_below : (most n : ℕ) → n < 128 ^ suc most → n / 128 < 128 ^ most
next_below most n lt = div_below n 128 (128 ^ most) (omega arith) (omega (arith, lt, nat.pow-suc 128 most))

pub some_more : (most n : ℕ) → 0 < n → n < 128 ^ most → 0 < most
some_more zero n some lt = absurd (omega arith)
some_more (suc most) n some lt = omega arith

one_byte : (most n : ℕ) (rest : List ℕ) → n < 128
    → number_within (suc most) (number_text_within (suc most) n ++ rest) ≡ Ok (n, rest)
unfolding number_text_within number_within
one_byte most n rest lt = let e : nat_lt n 128 ≡ true = lt-ltb _ _ lt in rw (e, e) refl

more_bytes : (most n : ℕ) (rest : List ℕ) → 128 ≤ n → n < 2 ^ 128
    → number_within most (number_text_within most (n / 128) ++ rest) ≡ Ok (n / 128, rest)
    → number_within (suc most) (number_text_within (suc most) n ++ rest) ≡ Ok (n, rest)
unfolding number_text_within number_within
more_bytes most n rest ge fits again =
    let e : nat_lt n 128 ≡ false = le-ltb _ _ ge in
    let marked : nat_lt (n % 128 + 128) 128 ≡ false = le-ltb _ _ (omega arith) in
    let narrow : is_bad_high (n / 128) ≡ false = grind (arith, nat_tests) in
    let whole : 128 * (n / 128) + (n % 128 + 128 - 128) ≡ n = omega arith in
    rw (e, marked, again, narrow) (ap (λ (m : ℕ). Ok (m, rest)) whole)

pub number_within-again : (most n : ℕ) (rest : List ℕ) → 0 < most → n < 128 ^ most → n < 2 ^ 128
    → number_within most (number_text_within most n ++ rest) ≡ Ok (n, rest)
number_within-again zero n rest some lt fits = absurd (omega arith)
number_within-again (suc most) n rest some lt fits =
    elim (cases_lt n 128) [
      | inl small ↦ one_byte most n rest small
      | inr large ↦
          let below = next_below most n lt in
          let again = number_within-again most (n / 128) rest (some_more most (n / 128) (omega arith) below) below
          (omega arith) in
          more_bytes most n rest large fits again
    ]

pub number_again : (n : ℕ) (rest : List ℕ) → n < 2 ^ 128 → number_at (number_text n ++ rest) ≡ Ok (n, rest)
number_again n rest fits = number_within-again 19 n rest (omega arith) (omega arith) fits

-- ---- the ways in which a number is read

pub no_byte_left : (most : ℕ) (bytes : List ℕ) → most ≡ 0 → number_within most bytes ≡ Err BadNumber
unfolding number_within
no_byte_left zero bytes none = refl
no_byte_left (suc most) bytes none = absurd (omega arith)

pub ended : (most : ℕ) (bytes : List ℕ) → (most ≡ 0 → ⊥) → length bytes ≡ 0 → number_within most bytes ≡ Err Short
unfolding number_within
ended zero bytes some none = absurd (omega arith)
ended (suc most) [] some none = refl
ended (suc most) (b ∷ bs) some none = absurd (omega arith)

pub last_byte : (most b : ℕ) (bytes bs : List ℕ) → (most ≡ 0 → ⊥) → bytes ≡ b ∷ bs → b < 128
    → number_within most bytes ≡ Ok (b, bs)
unfolding number_within
last_byte zero b bytes bs some is lt = absurd (omega arith)
last_byte (suc most) b bytes bs some is lt = let e : nat_lt b 128 ≡ true = lt-ltb _ _ lt in rw (is, e) refl

abbrev pub with_low : ℕ → Result (ℕ × List ℕ) CodecFault → Result (ℕ × List ℕ) CodecFault
with_low b read = read >>= λ high. unless BadNumber (is_bad_high high.0) (Ok (128 * high.0 + (b - 128), high.1))

pub one_more : (most b : ℕ) (bytes bs : List ℕ) → (most ≡ 0 → ⊥) → bytes ≡ b ∷ bs → 128 ≤ b
    → number_within most bytes ≡ with_low b (number_within (most - 1) bs)
unfolding number_within
one_more zero b bytes bs some is ge = absurd (omega arith)
one_more (suc most) b bytes bs some is ge =
    let e : nat_lt b 128 ≡ false = le-ltb _ _ ge in
    let k : suc most - 1 ≡ most = omega arith in
    rw (is, e, k) refl

pub high_fault : (b : ℕ) (read : Result (ℕ × List ℕ) CodecFault) (f : CodecFault) → read ≡ Err f
    → with_low b read ≡ Err f
high_fault b read f e = ap (with_low b) e

pub bad_high : (b high : ℕ) (bs : List ℕ) (read : Result (ℕ × List ℕ) CodecFault) → read ≡ Ok (high, bs)
    → is_bad_high high ≡ true → with_low b read ≡ Err BadNumber
bad_high b high bs read e t = ap (with_low b) e ∙ rw t refl

pub good_high : (b high : ℕ) (bs : List ℕ) (read : Result (ℕ × List ℕ) CodecFault) → read ≡ Ok (high, bs)
    → is_bad_high high ≡ false → with_low b read ≡ Ok (128 * high + (b - 128), bs)
good_high b high bs read e t = ap (with_low b) e ∙ rw t refl

pub two_bytes : (low high : ℕ) (bytes behind rest : List ℕ) → bytes ≡ low ∷ behind → behind ≡ high ∷ rest → 128 ≤ low
    → high < 128 → (high ≡ 0 → ⊥) → number_at bytes ≡ Ok (128 * high + (low - 128), rest)
two_bytes low high bytes behind rest first second marked last some =
    let narrow : is_bad_high high ≡ false = grind (arith, nat_tests) in
    one_more 19 low bytes behind (λ e. omega arith) first marked
    ∙ good_high low high rest (number_within 18 behind) (last_byte 18 high behind rest (λ e. omega arith) second last)
    narrow

pub narrow_high : (high : ℕ) → is_bad_high high ≡ false → high < 2 ^ 121
narrow_high high t = grind (arith, nat_tests)

-- ---- the ways in which a number is written

pub text_last : (most n : ℕ) → 0 < most → n < 128 → number_text_within most n ≡ n ∷ []
unfolding number_text_within
text_last zero n some lt = absurd (omega arith)
text_last (suc most) n some lt = let e : nat_lt n 128 ≡ true = lt-ltb _ _ lt in rw e refl

pub text_more : (most n : ℕ) → 0 < most → 128 ≤ n
    → number_text_within most n ≡ (n % 128 + 128) ∷ number_text_within (most - 1) (n / 128)
unfolding number_text_within
text_more zero n some ge = absurd (omega arith)
text_more (suc most) n some ge =
    let e : nat_lt n 128 ≡ false = le-ltb _ _ ge in
    let k : suc most - 1 ≡ most = omega arith in
    rw (e, k) refl

pub fewer_below : (most n : ℕ) → 0 < most → n < 128 ^ most → n / 128 < 128 ^ (most - 1)
fewer_below zero n some lt = absurd (omega arith)
fewer_below (suc most) n some lt = let k : suc most - 1 ≡ most = omega arith in rw k (next_below most n lt)
