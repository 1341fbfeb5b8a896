use Rattle.std.proofs.Common.{rules, ◌≡◌, ℕ, ◌<◌, ◌≤◌, ◌+◌, ◌-◌, ◌/◌, ◌^◌, sym, ap, ◌∙◌, arith, w64, ⊎_elim}
use Rattle.std.specs.Int.{bit_at, trailing_zeros}
use Rattle.std.proofs.lemmas.Bool.{cases_lt}
use Rattle.std.proofs.lemmas.Nat.{shr_le}
use Rattle.std.proofs.lemmas.Nat.Bits.{bit_at-zero, bit_at-trailing_zeros, bit_at_above}
use Rattle.rr_packed.proofs.RankLemmas.{bit_at_rest}
use Rattle.rr_packed.proofs.mask.next_on.Goals as goal

-- a bit of what is left of a mask
left : (mask n i : ℕ) → 1 ≤ i → bit_at mask (n + i) ≡ bit_at (mask / 2 ^ n / 2 ^ 1) (i - 1)
left mask n i some = ap (bit_at mask) (omega arith) ∙ sym (bit_at_rest mask n (i - 1))

pub returns-then-rest-eq0-clause-unset : goal.returns-then-rest-eq0-clause-unset
returns-then-rest-eq0-clause-unset c = λ i some h.
    let none : c.args.mask / 2 ^ c.args.number.value / 2 ^ 1 ≡ 0 = search rules in
    left c.args.mask c.args.number.value i some ∙ ap (λ m. bit_at m (i - 1)) none ∙ bit_at-zero (i - 1)

-- what is left of a mask, and its lowest bit
record IsRest (mask n t : ℕ) : Type 0 where
  has : bit_at mask (n + 1 + t) ≡ 1
  within : n + 1 + t < 64
  none : (i : ℕ) → 1 ≤ i → i < 1 + t → bit_at mask (n + i) ≡ 0

rest_is : (mask n : ℕ) → mask < 2 ^ 64 → (mask / 2 ^ n / 2 ^ 1 ≡ 0 → ⊥)
    → IsRest mask n (trailing_zeros w64 (mask / 2 ^ n / 2 ^ 1))
rest_is mask n whole some =
    let rest = mask / 2 ^ n / 2 ^ 1 in
    let t = trailing_zeros w64 rest in
    let half : mask / 2 ^ n ≤ mask = shr_le mask n in
    let less : rest ≤ mask / 2 ^ n = shr_le (mask / 2 ^ n) 1 in
    let fits : rest < 2 ^ 64 = omega arith in
    let more : 0 < rest = ⊎_elim (λ (low : rest < 1). absurd (some (omega arith))) (λ (high : 1 ≤ rest). omega arith)
    (cases_lt rest 1) in
    let low = bit_at-trailing_zeros w64 rest more fits in
    let has : bit_at mask (n + 1 + t) ≡ 1 = sym (bit_at_rest mask n t) ∙ low.1 in
    record {
      has = has;
      within = ⊎_elim (λ (near : n + 1 + t < 64). near)
          (λ (far : 64 ≤ n + 1 + t). let clear = bit_at_above mask 64 (n + 1 + t) whole far in absurd (omega arith))
          (cases_lt (n + 1 + t) 64);
      none = λ i one h. left mask n i one ∙ low.2 (i - 1) (omega arith);
    }

pub returns-clause-within : goal.returns-clause-within
returns-clause-within c =
    let mask : c.args.mask < 2 ^ 64 = search rules in
    let within = (rest_is c.args.mask c.args.number.value mask c.if-rest-eq0.false).within in
    omega arith

pub returns-clause-unset : goal.returns-clause-unset
returns-clause-unset c = λ i some h.
    let mask : c.args.mask < 2 ^ 64 = search rules in
    (rest_is c.args.mask c.args.number.value mask c.if-rest-eq0.false).none i some h
