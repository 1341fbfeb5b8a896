-- Masks as numbers: their bits, how many they are, and what bounds them.
use Rattle.std.proofs.Common.{◌≡◌, ℕ, zero, suc, ◌+◌, ◌*◌, ◌/◌, ◌%◌, ◌^◌, ◌<◌, ◌≤◌, max, IsTrue, sym, ap, ◌∙◌, subst, arith, lt_of_le_of_lt, lt_of_lt_of_le, lit<}
use Rattle.std.specs.Prelude.{bit_or, count_ones, nat_eq}
use Rattle.std.specs.Int.{bit_at}
use Rattle.std.specs.Int.Bits as bits
use Rattle.std.specs.Int.Count.{ones_step}
use Rattle.std.proofs.Math.Nat.{pow-suc, pow-le-pow_right, div-eq_of_lt}
use Rattle.std.proofs.lemmas.Nat.{ones_le_self, or_comm, shr_split, mod_below, pow_pos}
use Rattle.std.proofs.lemmas.Bool.{eqb-true, eq-eqb}
use Rattle.std.proofs.lemmas.Nat.Bits.{bit_at_or, bit_at-pow_same, bit_at-lt, bit_at_above}

-- the bits of a mask
abbrev pub width : ℕ
width = 128

-- ---- halves of a mask

or_max : (a b c : ℕ) → max (max a b) c ≡ max a (max b c)
or_max a b c = omega arith

half_or : (a b : ℕ) → bit_or a b / 2 ≡ bit_or (a / 2) (b / 2)
half_or a b = let e = bits.or_step a b in omega arith

low_or : (a b : ℕ) → bit_or a b % 2 ≡ max (a % 2) (b % 2)
low_or a b = let e = bits.or_step a b in omega arith

same_halves : (x y : ℕ) → x / 2 ≡ y / 2 → x % 2 ≡ y % 2 → x ≡ y
same_halves x y p q = omega arith

half_below : (n a : ℕ) → a < 2 ^ suc n → a / 2 < 2 ^ n
half_below n a h = omega (arith, pow-suc 2 n)

below_pow : (n : ℕ) → n < 2 ^ n
below_pow zero = lit< tt
below_pow (suc n) = let h = below_pow n in omega (arith, pow-suc 2 n)

-- ---- in any grouping

or_assoc_below : (n a b c : ℕ) → a < 2 ^ n → b < 2 ^ n → c < 2 ^ n → bit_or (bit_or a b) c ≡ bit_or a (bit_or b c)
or_assoc_below zero a b c p q r =
    let a0 : a ≡ 0 = omega arith in
    let b0 : b ≡ 0 = omega arith in
    (λ i. bit_or (bit_or (a0 i) (b0 i)) c) ∙ sym (λ i. bit_or (a0 i) (bit_or (b0 i) c))
or_assoc_below (suc n) a b c p q r =
    same_halves (bit_or (bit_or a b) c) (bit_or a (bit_or b c))
    (half_or (bit_or a b) c ∙ ap (λ x. bit_or x (c / 2)) (half_or a b)
    ∙ or_assoc_below n (a / 2) (b / 2) (c / 2) (half_below n a p) (half_below n b q) (half_below n c r)
    ∙ sym (half_or a (bit_or b c) ∙ ap (bit_or (a / 2)) (half_or b c)))
    (low_or (bit_or a b) c ∙ ap (λ x. max x (c % 2)) (low_or a b) ∙ or_max (a % 2) (b % 2) (c % 2)
    ∙ sym (low_or a (bit_or b c) ∙ ap (max (a % 2)) (low_or b c)))

or_assoc : (a b c : ℕ) → bit_or (bit_or a b) c ≡ bit_or a (bit_or b c)
or_assoc a b c =
    let below = below_pow (a + b + c) in
    or_assoc_below (a + b + c) a b c (lt_of_le_of_lt (omega arith) below) (lt_of_le_of_lt (omega arith) below)
    (lt_of_le_of_lt (omega arith) below)

pub or_swap : (a b c : ℕ) → bit_or a (bit_or b c) ≡ bit_or b (bit_or a c)
or_swap a b c = sym (or_assoc a b c) ∙ ap (λ x. bit_or x c) (or_comm a b) ∙ or_assoc b a c

-- ---- how many places a mask has

no_ones : count_ones 0 ≡ 0
no_ones = let h = ones_le_self 0 in omega arith

ones_or_below : (n a b : ℕ) → a < 2 ^ n → b < 2 ^ n → count_ones (bit_or a b) ≤ count_ones a + count_ones b
ones_or_below zero a b p q =
    let a0 : a ≡ 0 = omega arith in
    let b0 : b ≡ 0 = omega arith in
    subst (λ x. count_ones (bit_or x b) ≤ count_ones x + count_ones b) (sym a0) (omega arith)
ones_or_below (suc n) a b p q =
    let rest = ones_or_below n (a / 2) (b / 2) (half_below n a p) (half_below n b q) in
    let whole = ones_step (bit_or a b) in
    let half = ap count_ones (half_or a b) in
    let low = low_or a b in
    let of_a = ones_step a in
    let of_b = ones_step b in
    omega arith

ones_or : (a b : ℕ) → count_ones (bit_or a b) ≤ count_ones a + count_ones b
ones_or a b =
    let below = below_pow (a + b) in
    ones_or_below (a + b) a b (lt_of_le_of_lt (omega arith) below) (lt_of_le_of_lt (omega arith) below)

pub one_bit : (p : ℕ) → count_ones (2 ^ p) ≡ 1
one_bit zero = let step = ones_step 1 in let none = no_ones in step ∙ none_left none
  where
    none_left : count_ones 0 ≡ 0 → 1 % 2 + count_ones (1 / 2) ≡ 1
    none_left e = ap (λ (x : ℕ). 1 + x) e
one_bit (suc p) =
    let double = pow-suc 2 p in
    let half : 2 ^ suc p / 2 ≡ 2 ^ p = omega arith in
    let even : 2 ^ suc p % 2 ≡ 0 = omega arith in
    ones_step (2 ^ suc p) ∙ (λ i. even i + count_ones (half i)) ∙ zero_left (one_bit p)
  where
    zero_left : {n : ℕ} → n ≡ 1 → 0 + n ≡ 1
    zero_left e = ap (λ (x : ℕ). 0 + x) e

-- a place more is at most a bit more
pub ones-with_place : (mask place : ℕ) → count_ones (bit_or mask (2 ^ place)) ≤ count_ones mask + 1
ones-with_place mask place = let most = ones_or mask (2 ^ place) in let one = one_bit place in omega arith

-- ---- which places a mask has

one_first : (x y : ℕ) → x ≡ 1 → y < 2 → max x y ≡ 1
one_first x y e h = omega arith

one_second : (x y : ℕ) → y ≡ 1 → x < 2 → max x y ≡ 1
one_second x y e h = omega arith

pub bit_kept : (mask place i : ℕ) → bit_at mask i ≡ 1 → bit_at (bit_or mask (2 ^ place)) i ≡ 1
bit_kept mask place i e = bit_at_or mask (2 ^ place) i ∙ one_first _ _ e (bit_at-lt (2 ^ place) i)

pub bit_set : (mask place : ℕ) → bit_at (bit_or mask (2 ^ place)) place ≡ 1
bit_set mask place = bit_at_or mask (2 ^ place) place ∙ one_second _ _ (bit_at-pow_same place) (bit_at-lt mask place)

-- ---- a bound of a mask by what a shift leaves

shifted_out : (mask steps : ℕ) → mask / 2 ^ steps ≡ 0 → mask < 2 ^ steps
shifted_out mask steps e =
    let split = subst (λ q. q * 2 ^ steps + mask % 2 ^ steps ≡ mask) e (shr_split mask steps) in
    let low = mod_below mask (2 ^ steps) (pow_pos steps) in
    omega arith

pub shift_tells : (mask steps : ℕ) → (IsTrue (nat_eq (mask / 2 ^ steps) 0) → mask < 2 ^ steps)
    × (mask < 2 ^ steps → IsTrue (nat_eq (mask / 2 ^ steps) 0))
shift_tells mask steps = (
  (λ h. shifted_out mask steps (eqb-true (mask / 2 ^ steps) 0 h)),
  (λ h. eq-eqb (mask / 2 ^ steps) 0 (div-eq_of_lt h)),
)

pub in_width : (mask steps : ℕ) → mask < 2 ^ width → width ≤ steps → mask < 2 ^ steps
in_width mask steps fits wide = lt_of_lt_of_le fits (pow-le-pow_right (lit< tt) wide)

-- no place is at the width or above it
pub none_past : (mask place : ℕ) → mask < 2 ^ width → width ≤ place → bit_at mask place ≡ 1 → ⊥
none_past mask place fits past has = let none = bit_at_above mask width place fits past in omega arith
