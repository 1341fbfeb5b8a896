-- Where a slot is: in which block, and in which row of it.
use Rattle.std.specs.Prelude.{ℕ, ℤ, Bool, false, List, [], ◌∷◌, int_lt, pos, unsigned_abs}
use Rattle.std.specs.Int.{int_div_euclid, int_rem_euclid}

-- the number of the block of a slot, and that of its row there
unfoldable pub block_of : ℤ → ℤ
block_of slot = int_div_euclid slot (pos 64)

unfoldable pub row_of : ℤ → ℕ
row_of slot = unsigned_abs (int_rem_euclid slot (pos 64))

-- whether the first of some numbers is before another
abbrev pub begins_before : ℤ → List ℤ → Bool
begins_before number [] = false
begins_before number (first ∷ rest) = int_lt first number
