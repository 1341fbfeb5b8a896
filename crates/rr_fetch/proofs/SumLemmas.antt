-- Sums of values of 64 bits, and how many entries a row can have.
use Rattle.std.proofs.Common.{◌≡◌, ℕ, suc, ◌+◌, ◌*◌, ◌-◌, ◌^◌, ◌<◌, ◌≤◌, ℤ, pos, negsuc, neg_ℤ, ◌+ℤ◌, ◌*ℤ◌, ◌≤ℤ◌, true, List, [], ◌∷◌, length, get_or, arith, ltb, zero}
use Rattle.std.specs.Int.{w64, w128}
use Rattle.std.specs.Prelude.{FitsSigned}
use Rattle.std.proofs.lemmas.Bool.{ltb-true}
use Rattle.std.proofs.lemmas.Int.{ints, fits_signed_from_abs}
use Rattle.std.proofs.Math.Nat.{mul-le-mul_left}
use Rattle.rr_join.proofs.Booleans.{and_first, and_second}
use Rattle.rr_archive.specs.declared.entry.Entry.{Entry}
use Rattle.rr_archive.specs.Row.{ascends, ascends_from}
use Rattle.rr_fetch.specs.Consolidation.{IsBounded}

-- k times a value of 64 bits
times_low : (k : ℕ) (m : ℤ) → FitsSigned w64 m → neg_ℤ (pos (k * 2 ^ 63)) ≤ℤ (pos k *ℤ m)
times_low k (pos n) fits = omega (arith, ints)
times_low k (negsuc n) fits =
    let most : suc n ≤ 2 ^ 63 = omega (arith, ints, fits.sfits) in
    let times = mul-le-mul_left k most in
    omega (arith, ints)

times_high : (k : ℕ) (m : ℤ) → FitsSigned w64 m → (pos k *ℤ m) ≤ℤ pos (k * (2 ^ 63 - 1))
times_high k (pos n) fits =
    let most : n ≤ 2 ^ 63 - 1 = omega (arith, ints, fits.sfits) in
    let times = mul-le-mul_left k most in
    omega (arith, ints)
times_high k (negsuc n) fits = omega (arith, ints)

-- with more samples, whose sum lies between their number times their extremes
pub bounded_with : (count more : ℕ) (total sum least most : ℤ) → IsBounded count total → FitsSigned w64 least
    → FitsSigned w64 most → (pos more *ℤ least) ≤ℤ sum → sum ≤ℤ (pos more *ℤ most)
    → IsBounded (count + more) (total +ℤ sum)
bounded_with count more total sum least most is least_fits most_fits low high =
    let below = times_low more least least_fits in
    let above = times_high more most most_fits in
    record { least = omega (arith, ints, is.least); most = omega (arith, ints, is.most) }

-- the sum of a row's samples, and of as many as one contribution may have, fits in 128 bits
pub bounded_fits : (count : ℕ) (total : ℤ) → count ≤ 65537 * 2 ^ 40 → IsBounded count total → FitsSigned w128 total
bounded_fits count total few is = fits_signed_from_abs w128 total (omega (arith, ints, is.least, is.most))

-- an origin of an ascending list is at least its place
ascends_from-place : (below : ℕ) (es : List Entry) (i : ℕ) (d : Entry) → ascends_from below es ≡ true → i < length es
    → below + suc i ≤ (get_or es i d).origin
ascends_from-place below [] i d up there = absurd (omega arith)
ascends_from-place below (e ∷ es) zero d up there =
    let first = ltb-true below e.origin (and_first (ltb below e.origin) (ascends_from e.origin es) up) in omega arith
ascends_from-place below (e ∷ es) (suc i) d up there =
    let first = ltb-true below e.origin (and_first (ltb below e.origin) (ascends_from e.origin es) up) in
    let rest = ascends_from-place e.origin es i d (and_second (ltb below e.origin) (ascends_from e.origin es) up)
    (omega arith) in
    omega arith

pub ascends-place : (es : List Entry) (i : ℕ) (d : Entry) → ascends es ≡ true → i < length es
    → i ≤ (get_or es i d).origin
ascends-place [] i d up there = absurd (omega arith)
ascends-place (e ∷ es) zero d up there = omega arith
ascends-place (e ∷ es) (suc i) d up there =
    let rest = ascends_from-place e.origin es i d up (omega arith) in omega arith
