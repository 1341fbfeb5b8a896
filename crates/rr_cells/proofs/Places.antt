-- Places within their slots.
use Rattle.std.proofs.Common.{◌*◌, ◌<◌, ◌≤◌, ℕ, ℤ, pos, negsuc, subst, arith}
use Rattle.std.specs.Prelude.{unsigned_abs}
use Rattle.std.specs.Int.{int_div_euclid, int_rem_euclid}
use Rattle.rr_schema.specs.Schema.{Layout, IsLayout, archive_at, place_of}
use Rattle.rr_schema.proofs.PlaceLemmas.{rem_is_place}
use Rattle.rr_cells.proofs.Horizon.{archive_is}

rem_below : (z : ℤ) (n : ℕ) → 1 ≤ n → unsigned_abs (int_rem_euclid z (pos n)) < n
rem_below (pos a) n some = omega arith
rem_below (negsuc a) n some = omega arith

-- a place is one of the steps of its slot
pub place_below : (s : Layout) → IsLayout s → (i : ℕ) (time : ℤ) → place_of s i time < (archive_at s i).steps
place_below s is i time =
    let steps = (archive_at s i).steps in
    let some : 1 ≤ steps = (archive_is s is i).some_step in
    subst (λ p. p < steps) (rem_is_place s i time (omega arith))
    (rem_below (int_div_euclid time (pos (s.step * 1_000_000_000))) steps some)
