-- A place is what is left of the steps since the epoch once the whole slots are taken away.
use Rattle.std.proofs.Common.{◌≡◌, ℕ, suc, ◌+◌, ◌-◌, ◌*◌, ◌/◌, ◌%◌, ◌<◌, ℤ, pos, negsuc, neg_ℤ, ◌-ℤ◌, ◌*ℤ◌, sym, ap, subst, ◌∙◌, arith, suc-mul}
use Rattle.std.specs.Prelude.{unsigned_abs}
use Rattle.std.specs.Int.{int_div_euclid, int_rem_euclid}
use Rattle.std.proofs.lemmas.Int.{ints}
use Rattle.std.proofs.Math.Nat.{div-div-eq-div-mul}
use Rattle.rr_schema.specs.Schema.{Layout, archive_at, place_of}

slot_in_steps : (a step n : ℕ) → a / (step * n * 1_000_000_000) ≡ a / (step * 1_000_000_000) / n
slot_in_steps a step n = ap (λ (d : ℕ). a / d) (omega arith) ∙ sym (div-div-eq-div-mul a (step * 1_000_000_000) n)

left_above : (q m r : ℕ) → q ≡ m + r → unsigned_abs (pos q -ℤ pos m) ≡ r
left_above q m r h = let e : (pos q -ℤ pos m) ≡ pos r = omega (arith, ints) in ap unsigned_abs e

left_below : (q m r : ℕ) → m ≡ suc q + r → unsigned_abs (negsuc q -ℤ neg_ℤ (pos m)) ≡ r
left_below q m r h =
    let e : (negsuc q -ℤ neg_ℤ (pos m)) ≡ pos r = omega (arith, ints) in ap unsigned_abs e

pub rem_is_place : (s : Layout) (i : ℕ) (time : ℤ) → 0 < (archive_at s i).steps
    → unsigned_abs (int_rem_euclid (int_div_euclid time (pos (s.step * 1_000_000_000))) (pos (archive_at s i).steps))
    ≡ place_of s i time
unfolding place_of
rem_is_place s i (pos a) some =
    let n = (archive_at s i).steps in
    let q = a / (s.step * 1_000_000_000) in
    subst (λ d. q % n ≡ unsigned_abs (pos q -ℤ (pos d *ℤ pos n))) (sym (slot_in_steps a s.step n))
    (sym (left_above q (q / n * n) (q % n) (omega arith)))
rem_is_place s i (negsuc a) some =
    let n = (archive_at s i).steps in
    let q = a / (s.step * 1_000_000_000) in
    subst (λ d. n - 1 - q % n ≡ unsigned_abs (negsuc q -ℤ (negsuc d *ℤ pos n))) (sym (slot_in_steps a s.step n))
    (sym (left_below q (suc (q / n) * n) (n - 1 - q % n) (omega (arith, suc-mul (q / n) n))))
