-- The places of samples as the bits of a mask.
use Rattle.std.proofs.Common.{◌≡◌, ℕ, zero, suc, ◌+◌, ◌/◌, ◌%◌, ◌^◌, ◌<◌, max, cond, ◌||◌, true, List, [], ◌∷◌, length, refl, sym, ap, ◌∙◌, subst, arith, ⊎_elim, add-zero, add-one, ◌≢◌}
use Rattle.std.specs.Prelude.{count_ones, ◌==◌}
use Rattle.std.specs.List.{filter, list_any, range_with_len}
use Rattle.std.specs.Int.{bit_at}
use Rattle.std.specs.Int.Count.{ones_step}
use Rattle.std.proofs.Math.Nat.{pow-suc, div-div-eq-div-mul, div-eq_of_lt}
use Rattle.std.proofs.Math.Pow.{pow_pos, pow-lt}
use Rattle.std.proofs.lemmas.Bool.{eq-eqb, or_left, or_right}
use Rattle.std.proofs.lemmas.Bool.Decides.{eqb_tells}
use Rattle.std.proofs.lemmas.List.Elements.{filter_agree}
use Rattle.std.proofs.lemmas.Nat.{or_lt, ones_le_self}
use Rattle.std.proofs.lemmas.Nat.Bits.{bit_at_or, bit_at-pow_same, bit_at-pow_other, bit_at-zero, bit_at-lt}
use Rattle.rr_contrib.specs.Samples.{mask_of}
use Rattle.rr_cells.specs.Rows.{places_where}

one_most : (y : ℕ) → y < 2 → max 1 y ≡ 1
one_most y h = omega arith

zero_least : (y : ℕ) → max 0 y ≡ y
zero_least y = omega arith

-- a mask has the places that it was made of
mask_has : (ps : List ℕ) (i : ℕ) → (bit_at (mask_of ps) i == 1) ≡ list_any (λ p. p == i) ps
mask_has [] i = ap (λ b. b == 1) (bit_at-zero i)
mask_has (p ∷ ps) i =
    ap (λ b. b == 1) (bit_at_or (2 ^ p) (mask_of ps) i)
    ∙ ⊎_elim
    (λ h. ap (λ b. max b (bit_at (mask_of ps) i) == 1) (ap (bit_at (2 ^ p)) (sym h.1) ∙ bit_at-pow_same p)
    ∙ ap (λ b. b == 1) (one_most (bit_at (mask_of ps) i) (bit_at-lt (mask_of ps) i))
    ∙ ap (λ b. b || list_any (λ q. q == i) ps) (sym h.0))
    (λ h. ap (λ b. max b (bit_at (mask_of ps) i) == 1) (bit_at-pow_other p i (λ e. h.1 (sym e)))
    ∙ ap (λ b. b == 1) (zero_least (bit_at (mask_of ps) i)) ∙ mask_has ps i
    ∙ ap (λ b. b || list_any (λ q. q == i) ps) (sym h.0))
    (eqb_tells p i)

half_more : (x a : ℕ) → x / 2 ^ a / 2 ≡ x / 2 ^ (a + 1)
half_more x a = div-div-eq-div-mul x (2 ^ a) 2 ∙ ap (λ (y : ℕ). x / y) (sym (pow-suc 2 a))
    ∙ ap (λ k. x / 2 ^ k) (sym (add-one a))

no_ones : count_ones 0 ≡ 0
no_ones = let h = ones_le_self 0 in omega arith

-- how many bits are 1, from a on
ones_from : (x a n : ℕ) → x < 2 ^ (a + n) → count_ones (x / 2 ^ a)
    ≡ length (filter (λ p. bit_at x p == 1) (range_with_len a n))
ones_from x a zero h = ap count_ones (div-eq_of_lt (subst (λ k. x < 2 ^ k) (add-zero a) h)) ∙ no_ones
ones_from x a (suc n) h =
    let rest = ones_from x (a + 1) n (subst (λ k. x < 2 ^ k) (omega arith) h) in
    let step = ones_step (x / 2 ^ a) ∙ ap (λ y. x / 2 ^ a % 2 + y) (ap count_ones (half_more x a) ∙ rest) in
    ⊎_elim
    (λ t. step ∙ ap (λ b. b + length (filter (λ p. bit_at x p == 1) (range_with_len (a + 1) n))) t.1
    ∙ one_more (length (filter (λ p. bit_at x p == 1) (range_with_len (a + 1) n)))
    ∙ ap (λ b. length (cond b (a ∷ filter (λ p. bit_at x p == 1) (range_with_len (a + 1) n))
    (filter (λ p. bit_at x p == 1) (range_with_len (a + 1) n)))) (sym t.0))
    (λ f. step ∙ ap (λ b. b + length (filter (λ p. bit_at x p == 1) (range_with_len (a + 1) n)))
    (zero_bit (bit_at x a) (bit_at-lt x a) f.1) ∙ none_more
    (length (filter (λ p. bit_at x p == 1) (range_with_len (a + 1) n)))
    ∙ ap (λ b. length (cond b (a ∷ filter (λ p. bit_at x p == 1) (range_with_len (a + 1) n))
    (filter (λ p. bit_at x p == 1) (range_with_len (a + 1) n)))) (sym f.0))
    (eqb_tells (bit_at x a) 1)
  where
    one_more : (k : ℕ) → 1 + k ≡ suc k
    one_more k = omega arith

    none_more : (k : ℕ) → 0 + k ≡ k
    none_more k = omega arith

    zero_bit : (b : ℕ) → b < 2 → (b ≢ 1) → b ≡ 0
    zero_bit b h n = omega arith

mask_below : (ps : List ℕ) (n : ℕ) → ((p : ℕ) → list_any (λ q. q == p) ps ≡ true → p < n) → mask_of ps < 2 ^ n
mask_below [] n f = pow_pos n
mask_below (p ∷ ps) n f =
    or_lt n (2 ^ p) (mask_of ps) (pow-lt (f p (or_left (p == p) (list_any (λ q. q == p) ps) (eq-eqb p p refl))))
    (mask_below ps n (λ q e. f q (or_right (p == q) (list_any (λ r. r == q) ps) e)))

by_one : (x : ℕ) → x ≡ x / 2 ^ 0
by_one x = omega arith

-- the number of bits that are 1 is the number of places
pub ones-mask : (ps : List ℕ) (n : ℕ) → ((p : ℕ) → list_any (λ q. q == p) ps ≡ true → p < n)
    → count_ones (mask_of ps) ≡ places_where (λ i. list_any (λ p. p == i) ps) n
ones-mask ps n f =
    ap count_ones (by_one (mask_of ps)) ∙ ones_from (mask_of ps) 0 n
    (subst (λ k. mask_of ps < 2 ^ k) (omega arith) (mask_below ps n f))
    ∙ ap length (filter_agree (λ p. bit_at (mask_of ps) p == 1) (λ i. list_any (λ p. p == i) ps) (mask_has ps)
    (range_with_len 0 n))
