-- The slots of times are within bounds.
use Rattle.std.proofs.Common.{ℕ, zero, suc, ◌<◌, ◌≤◌, ◌*◌, ◌/◌, ◌^◌, ℤ, pos, negsuc, arith}
use Rattle.std.specs.Prelude.{FitsSigned}
use Rattle.std.specs.Int.{w64, int_div_euclid}
use Rattle.std.proofs.Math.Nat.{div-lt_iff_lt-mul}
use Rattle.std.proofs.lemmas.Int.{ints}
use Rattle.rr_schema.specs.Schema.{Layout, IsLayout, archive_at, slot_of, span}
use Rattle.rr_archive.specs.CellSlots.{IsSlot}
use Rattle.rr_cells.proofs.Horizon.{archive_is}

below_second : (t n : ℕ) → 1 ≤ n → t < 2 ^ 63 → t / (n * 1_000_000_000) < 9_223_372_037
below_second t n some fits = (div-lt_iff_lt-mul {k = n * 1_000_000_000} (omega arith)).1 (omega arith)

slot_bound : (time : ℤ) (n : ℕ) → 1 ≤ n → FitsSigned w64 time → IsSlot (int_div_euclid time (pos (n * 1_000_000_000)))
slot_bound (pos t) n some fits = let h = below_second t n some (omega (arith, ints)) in
    (omega (arith, ints), omega (arith, ints))
slot_bound (negsuc t) n some fits = let h = below_second t n some (omega (arith, ints)) in
    (omega (arith, ints), omega (arith, ints))

pub slot_is : (s : Layout) → IsLayout s → (i : ℕ) (time : ℤ) → FitsSigned w64 time → IsSlot (slot_of s i time)
slot_is s is i time fits = slot_bound time (span s i)
    (some_span s.step (archive_at s i).steps is.some_step (archive_is s is i).some_step) fits
  where
    some_span : (m n : ℕ) → 1 ≤ m → 1 ≤ n → 1 ≤ m * n
    some_span (suc m) (suc n) a b = omega arith
    some_span zero n a b = absurd (omega arith)
    some_span (suc m) zero a b = absurd (omega arith)
