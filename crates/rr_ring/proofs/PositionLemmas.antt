-- Two live slots of one position are one.
use Rattle.std.proofs.Common.{◌≡◌, ℕ, suc, ◌+◌, ◌*◌, ◌%◌, ◌/◌, ◌<◌, ◌≤◌, ℤ, pos, negsuc, ◌+ℤ◌, ◌-ℤ◌, ◌≤ℤ◌, ◌<ℤ◌, true, false, refl, sym, ap, ◌∙◌, subst, arith, mul_comm, ⊎_elim}
use Rattle.std.specs.Prelude.{unsigned_abs, int_lt}
use Rattle.std.proofs.Math.Nat.{mul-le-mul_left, mul-suc}
use Rattle.std.proofs.lemmas.Nat.{div-add-mod', mod-mul-add}
use Rattle.std.proofs.lemmas.Bool.{cases_lt}
use Rattle.std.proofs.lemmas.Int.{ints, int_rem_euclid_is}
use Rattle.rr_ring.specs.Positions.{position_of}

-- of two numbers with one remainder the greater is greater by the divisor
no_gap : (m n d : ℕ) → n < m + d → m % d ≡ n % d → n ≤ m
no_gap m n d near same =
    let a = div-add-mod' m d in
    let b = div-add-mod' n d in
    ⊎_elim
    (λ (less : m / d < n / d).
    let step : d * suc (m / d) ≤ d * (n / d) = mul-le-mul_left d (omega arith) in
    let left = mul-suc d (m / d) in
    let p = mul_comm d (m / d) in
    let q = mul_comm d (n / d) in
    absurd (omega arith))
    (λ (not_less : n / d ≤ m / d).
    let step : d * (n / d) ≤ d * (m / d) = mul-le-mul_left d not_less in
    let p = mul_comm d (m / d) in
    let q = mul_comm d (n / d) in
    omega arith)
    (cases_lt (m / d) (n / d))

-- a slot, so many rounds later that it is a natural
ahead : ℕ → ℕ → ℤ → ℕ
ahead k n z = unsigned_abs (z +ℤ pos (k * n))

module _ (k n : ℕ) (some : 1 ≤ n) where
  enough : k ≤ k * n
  enough = let most : k * 1 ≤ k * n = mul-le-mul_left k some in omega arith

  ahead_is : (z : ℤ) → unsigned_abs z ≤ k → z +ℤ pos (k * n) ≡ pos (ahead k n z)
  unfolding ahead
  ahead_is z near = as_pos (z +ℤ pos (k * n)) (not_below z (k * n) (let e = enough in omega arith))
    where
      as_pos : (z : ℤ) → pos 0 ≤ℤ z → z ≡ pos (unsigned_abs z)
      as_pos (pos n) h = refl
      as_pos (negsuc n) h = absurd (omega (arith, ints))

      not_below : (z : ℤ) (m : ℕ) → unsigned_abs z ≤ m → pos 0 ≤ℤ (z +ℤ pos m)
      not_below (pos a) m h = omega (arith, ints)
      not_below (negsuc a) m h = omega (arith, ints)

  position_is : (z : ℤ) → unsigned_abs z ≤ k → position_of n z ≡ ahead k n z % n
  unfolding position_of
  position_is z near = ap unsigned_abs (int_rem_euclid_is z (pos n) n k (ahead k n z) (omega arith) refl
      (ahead_is z near))

-- the slot a few later has the position that is as many later, where the ring goes on so far
pub position_on : (n : ℕ) (z : ℤ) (i : ℕ) → 1 ≤ n → position_of n z + i < n
    → position_of n (z +ℤ pos i) ≡ position_of n z + i
position_on n z i some near =
    let k = unsigned_abs z + unsigned_abs (z +ℤ pos i) in
    let is = position_is k n some z (omega arith) in
    let later = ahead_is k n some (z +ℤ pos i) (omega arith) in
    let first = ahead_is k n some z (omega arith) in
    let more : ahead k n (z +ℤ pos i) ≡ ahead k n z + i =
    further z (k * n) i (ahead k n z) (ahead k n (z +ℤ pos i)) first later in
    position_is k n some (z +ℤ pos i) (omega arith)
    ∙ ap (λ m. m % n) more
    ∙ rest_on (ahead k n z) i n (subst (λ r. r + i < n) is near)
    ∙ ap (λ r. r + i) (sym is)
  where
    further : (z : ℤ) (m i x y : ℕ) → z +ℤ pos m ≡ pos x → (z +ℤ pos i) +ℤ pos m ≡ pos y → y ≡ x + i
    further z m i x y p q = omega (arith, ints)

    rest_on : (m i n : ℕ) → m % n + i < n → (m + i) % n ≡ m % n + i
    rest_on m i n near =
        let parts = div-add-mod' m n in
        ap (λ x. x % n) {y = m / n * n + (m % n + i)} (omega arith) ∙ mod-mul-add (m / n) n (m % n + i) near

-- the positions of two slots, as the remainders of two naturals
not_above : (n : ℕ) (a b : ℤ) → 1 ≤ n → position_of n a ≡ position_of n b → b <ℤ (a +ℤ pos n) → b ≤ℤ a
not_above n a b some same near =
    let k = unsigned_abs a + unsigned_abs b in
    let at_a : unsigned_abs a ≤ k = omega arith in
    let at_b : unsigned_abs b ≤ k = omega arith in
    let is_a = ahead_is k n some a at_a in
    let is_b = ahead_is k n some b at_b in
    let rest : ahead k n a % n ≡ ahead k n b % n = sym (position_is k n some a at_a) ∙ same
    ∙ position_is k n some b at_b in
    let gap : ahead k n b < ahead k n a + n = closer a b (k * n) n (ahead k n a) (ahead k n b) is_a is_b near in
    back a b (k * n) (ahead k n a) (ahead k n b) is_a is_b (no_gap (ahead k n a) (ahead k n b) n gap rest)
  where
    closer : (a b : ℤ) (m n x y : ℕ) → a +ℤ pos m ≡ pos x → b +ℤ pos m ≡ pos y → b <ℤ (a +ℤ pos n) → y < x + n
    closer a b m n x y p q near = omega (arith, ints)

    back : (a b : ℤ) (m x y : ℕ) → a +ℤ pos m ≡ pos x → b +ℤ pos m ≡ pos y → y ≤ x → b ≤ℤ a
    back a b m x y p q le = omega (arith, ints)

-- two slots of the last rows up to a newest one
pub one_slot : (n : ℕ) (top a b : ℤ) → 1 ≤ n → position_of n a ≡ position_of n b → int_lt (top -ℤ pos n) a ≡ true
    → int_lt top a ≡ false → int_lt (top -ℤ pos n) b ≡ true → int_lt top b ≡ false → a ≡ b
one_slot n top a b some same low_a high_a low_b high_b =
    both a b
    (not_above n a b some same (near n top a b low_a high_b))
    (not_above n b a some (sym same) (near n top b a low_b high_a))
  where
    near : (n : ℕ) (top a b : ℤ) → int_lt (top -ℤ pos n) a ≡ true → int_lt top b ≡ false → b <ℤ (a +ℤ pos n)
    near n top a b low high = omega (arith, ints)

    both : (a b : ℤ) → b ≤ℤ a → a ≤ℤ b → a ≡ b
    both a b p q = omega (arith, ints)
