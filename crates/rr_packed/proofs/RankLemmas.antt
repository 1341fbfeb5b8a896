-- How many bits of a mask are below a number, and of one with a bit more.
use Rattle.std.proofs.Common.{◌≡◌, ℕ, zero, suc, ◌+◌, ◌-◌, ◌*◌, ◌/◌, ◌%◌, ◌^◌, ◌<◌, ◌≤◌, sym, ap, ◌∙◌, arith, ⊎_elim, mod-eq_of_lt, w64}
use Rattle.std.specs.Prelude.{count_ones, bit_and, bit_or}
use Rattle.std.specs.Int.{bit_at, bit_not}
use Rattle.std.specs.Int.Count.{ones_step}
use Rattle.std.proofs.lemmas.Bool.{cases_lt}
use Rattle.std.proofs.lemmas.Nat.{ones_cat, ones-le, ones_le_self, mod-pow-add, mod_below, pow_pos, one_shl, and_mask, and_le_l, shr-shr, shl-shr}
use Rattle.std.proofs.Math.Nat.{mul-mod_left}
use Rattle.std.proofs.lemmas.Nat.Bits.{bit_at-lt, bit_at_above, shr_and_one, bit_at_set_same, bit_at_set_other, bit_at_clear_same, bit_at_clear_other}
use Rattle.rr_packed.specs.Sparse.{rank}

-- ---- how many bits are below a number

no_ones : count_ones 0 ≡ 0
no_ones = let h = ones_le_self 0 in omega arith

one_bit : (b : ℕ) → b < 2 → count_ones b ≡ b
one_bit b h =
    let step = ones_step b in
    let half : b / 2 ≡ 0 = omega arith in
    let none : count_ones (b / 2) ≡ 0 = ap count_ones half ∙ no_ones in
    omega arith

-- those of a number that is shifted, as far as it stays in 64 bits
ones_shifted : (x m : ℕ) → m ≤ 64 → count_ones (x * 2 ^ (64 - m) % 2 ^ 64) ≡ count_ones (x % 2 ^ m)
ones_shifted x m fits =
    let k = 64 - m in
    let all : 64 ≡ m + k = omega arith in
    let cat = ones_cat k (x % 2 ^ m) 0 (pow_pos k) in
    ap (λ (j : ℕ). count_ones (x * 2 ^ k % 2 ^ j)) all
    ∙ ap count_ones (mod-pow-add (x * 2 ^ k) m k)
    ∙ (λ i. count_ones (shl-shr x k i % 2 ^ m * 2 ^ k + mul-mod_left x (2 ^ k) i))
    ∙ cat
    ∙ ap (λ n. count_ones (x % 2 ^ m) + n) no_ones
    ∙ alone (count_ones (x % 2 ^ m))
  where
    alone : (a : ℕ) → a + 0 ≡ a
    alone a = omega arith

rank_none : (mask : ℕ) → rank mask 0 ≡ 0
unfolding rank
rank_none mask = let low : mask % 2 ^ 0 ≡ 0 = omega arith in ap count_ones low ∙ no_ones

pub rank_more : (mask n : ℕ) → rank mask (n + 1) ≡ rank mask n + bit_at mask n
unfolding rank
rank_more mask n =
    let k : n + 1 ≡ 1 + n = omega arith in
    let bit = one_bit (mask / 2 ^ n % 2) (omega arith) in
    let cat = ones_cat n (mask / 2 ^ n % 2) (mask % 2 ^ n) (mod_below mask (2 ^ n) (pow_pos n)) in
    ap (λ (j : ℕ). count_ones (mask % 2 ^ j)) k ∙ ap count_ones (mod-pow-add mask 1 n) ∙ cat
    ∙ together (count_ones (mask / 2 ^ n % 2)) (mask / 2 ^ n % 2) (count_ones (mask % 2 ^ n)) bit
  where
    together : (a b c : ℕ) → a ≡ b → a + c ≡ c + b
    together a b c e = omega arith

pub rank_on : (mask n m : ℕ) → m ≤ 64 → rank mask n + count_ones (mask / 2 ^ n * 2 ^ (64 - m) % 2 ^ 64)
    ≡ rank mask (n + m)
unfolding rank
rank_on mask n m fits =
    let on : n + m ≡ m + n = omega arith in
    let low = mask % 2 ^ n in
    let high = mask / 2 ^ n % 2 ^ m in
    let cat = ones_cat n high low (mod_below mask (2 ^ n) (pow_pos n)) in
    ap (λ a. count_ones low + a) (ones_shifted (mask / 2 ^ n) m fits)
    ∙ turned (count_ones low) (count_ones high)
    ∙ sym cat
    ∙ ap count_ones (sym (mod-pow-add mask m n))
    ∙ ap (λ (j : ℕ). count_ones (mask % 2 ^ j)) (sym on)
  where
    turned : (a b : ℕ) → a + b ≡ b + a
    turned a b = omega arith

rank_rises : (mask m d : ℕ) → rank mask m ≤ rank mask (m + d)
rank_rises mask m zero = let same : rank mask (m + 0) ≡ rank mask m = ap (rank mask) (omega arith) in omega arith
rank_rises mask m (suc d) =
    let before = rank_rises mask m d in
    let more = rank_more mask (m + d) in
    let same : rank mask (m + suc d) ≡ rank mask ((m + d) + 1) = ap (rank mask) (omega arith) in
    omega arith

pub rank_le : (mask m n : ℕ) → m ≤ n → rank mask m ≤ rank mask n
rank_le mask m n h =
    let rise = rank_rises mask m (n - m) in
    let same : rank mask (m + (n - m)) ≡ rank mask n = ap (rank mask) (omega arith) in
    omega arith

pub rank_lt : (mask m n : ℕ) → m < n → bit_at mask m ≡ 1 → rank mask m < rank mask n
rank_lt mask m n h has = let more = rank_more mask m in let rest = rank_le mask (m + 1) n (omega arith) in omega arith

rank_all : (mask : ℕ) → mask < 2 ^ 64 → rank mask 64 ≡ count_ones mask
unfolding rank
rank_all mask fits = ap count_ones (mod-eq_of_lt fits)

pub rank_few : (mask n : ℕ) → rank mask n ≤ n
unfolding rank
rank_few mask n = ones-le n (mask % 2 ^ n) (mod_below mask (2 ^ n) (pow_pos n))

pub rank_at_most : (mask n : ℕ) → mask < 2 ^ 64 → n ≤ 64 → rank mask n ≤ count_ones mask
rank_at_most mask n fits low = let all = rank_all mask fits in let rest = rank_le mask n 64 low in omega arith

pub rank_within : (mask n : ℕ) → mask < 2 ^ 64 → n < 64 → bit_at mask n ≡ 1 → rank mask n < count_ones mask
rank_within mask n fits low has = let all = rank_all mask fits in let rest = rank_lt mask n 64 low has in omega arith

-- ---- a mask with a bit more

pub record HasOneMore (old new k : ℕ) : Type 0 where
  pub others : (i : ℕ) → (i ≡ k → ⊥) → bit_at new i ≡ bit_at old i
  pub was : bit_at old k ≡ 0
  pub now : bit_at new k ≡ 1

module _ (old new k : ℕ) (m : HasOneMore old new k) where
  pub rank_below : (n : ℕ) → n ≤ k → rank new n ≡ rank old n
  rank_below zero h = rank_none new ∙ sym (rank_none old)
  rank_below (suc n) h =
      let before = rank_below n (omega arith) in
      let same = m.others n (λ e. absurd (omega arith)) in
      let up : suc n ≡ n + 1 = omega arith in
      ap (rank new) up ∙ joined (rank new (n + 1)) (rank old (n + 1)) (rank new n) (rank old n) (bit_at new n)
      (bit_at old n) (rank_more new n) (rank_more old n) before same ∙ ap (rank old) (sym up)
    where
      joined : (x y p q b c : ℕ) → x ≡ p + b → y ≡ q + c → p ≡ q → b ≡ c → x ≡ y
      joined x y p q b c e f g h = omega arith

  rank_above : (d : ℕ) → rank new (k + 1 + d) ≡ rank old (k + 1 + d) + 1
  rank_above zero =
      let at : k + 1 + 0 ≡ k + 1 = omega arith in
      ap (rank new) at ∙ joined (rank new (k + 1)) (rank old (k + 1)) (rank new k) (rank old k) (bit_at new k)
      (bit_at old k) (rank_more new k) (rank_more old k) (rank_below k (omega arith)) m.now m.was
      ∙ ap (λ n. rank old n + 1) (sym at)
    where
      joined : (x y p q b c : ℕ) → x ≡ p + b → y ≡ q + c → p ≡ q → b ≡ 1 → c ≡ 0 → x ≡ y + 1
      joined x y p q b c e f g h i = omega arith
  rank_above (suc d) =
      let at : k + 1 + suc d ≡ (k + 1 + d) + 1 = omega arith in
      ap (rank new) at ∙ joined (rank new ((k + 1 + d) + 1)) (rank old ((k + 1 + d) + 1)) (rank new (k + 1 + d))
      (rank old (k + 1 + d)) (bit_at new (k + 1 + d)) (bit_at old (k + 1 + d)) (rank_more new (k + 1 + d))
      (rank_more old (k + 1 + d)) (rank_above d) (m.others (k + 1 + d) (λ e. absurd (omega arith)))
      ∙ ap (λ n. rank old n + 1) (sym at)
    where
      joined : (x y p q b c : ℕ) → x ≡ p + b → y ≡ q + c → p ≡ q + 1 → b ≡ c → x ≡ y + 1
      joined x y p q b c e f g h = omega arith

  pub rank_past : (n : ℕ) → k < n → rank new n ≡ rank old n + 1
  rank_past n h = let at : n ≡ k + 1 + (n - (k + 1)) = omega arith in ap (rank new) at ∙ rank_above (n - (k + 1))
      ∙ ap (λ i. rank old i + 1) (sym at)

  pub ones_more : old < 2 ^ 64 → new < 2 ^ 64 → k < 64 → count_ones new ≡ count_ones old + 1
  ones_more fits fits' low = sym (rank_all new fits') ∙ rank_past 64 low ∙ ap (λ n. n + 1) (rank_all old fits)

-- ---- the code's masks

pub bit_is_set : (mask n : ℕ) → (bit_and (mask / 2 ^ n) 1 ≡ 0 → ⊥) → bit_at mask n ≡ 1
bit_is_set mask n apart = by_bit (bit_at mask n) (bit_at-lt mask n) (λ e. apart (shr_and_one mask n ∙ e))
  where
    by_bit : (b : ℕ) → b < 2 → (b ≡ 0 → ⊥) → b ≡ 1
    by_bit b small h = ⊎_elim (λ (low : b < 1). absurd (h (omega arith))) (λ (high : 1 ≤ b). omega arith) (cases_lt b 1)

pub rank_code : (mask n : ℕ) → n < 64 → count_ones (bit_and mask (1 * 2 ^ n % 2 ^ 64 - 1)) ≡ rank mask n
unfolding rank
rank_code mask n low = ap (λ (m : ℕ). count_ones (bit_and mask (m - 1))) (one_shl n 64 low)
    ∙ ap count_ones (and_mask mask n)

pub more_by_or : (mask k : ℕ) → k < 64 → bit_at mask k ≡ 0 → HasOneMore mask (bit_or mask (1 * 2 ^ k % 2 ^ 64)) k
more_by_or mask k low was = record {
  others = λ i apart. bit_at_set_other w64 mask k low i apart;
  was = was;
  now = bit_at_set_same w64 mask k low;
}

pub less_by_and : (mask k : ℕ) → mask < 2 ^ 64 → k < 64 → bit_at mask k ≡ 1
    → HasOneMore (bit_and mask (bit_not w64 (1 * 2 ^ k % 2 ^ 64))) mask k
less_by_and mask k fits low has = record {
  others = λ i apart. ⊎_elim
      (λ (near : i < 64). sym (bit_at_clear_other w64 mask k low i near apart))
      (λ (far : 64 ≤ i). bit_at_above mask 64 i fits far
      ∙ sym (bit_at_above (bit_and mask (bit_not w64 (1 * 2 ^ k % 2 ^ 64))) 64 i (less i) far))
      (cases_lt i 64);
  was = bit_at_clear_same w64 mask k low;
  now = has;
}
  where
    less : (i : ℕ) → bit_and mask (bit_not w64 (1 * 2 ^ k % 2 ^ 64)) < 2 ^ 64
    less i = let h = and_le_l mask (bit_not w64 (1 * 2 ^ k % 2 ^ 64)) in omega arith

-- a bit of what two shifts leave
pub bit_at_rest : (mask n j : ℕ) → bit_at (mask / 2 ^ n / 2 ^ 1) j ≡ bit_at mask (n + 1 + j)
bit_at_rest mask n j = ap (λ x. x % 2) (ap (λ x. x / 2 ^ j) (shr-shr mask n 1) ∙ shr-shr mask (n + 1) j)
