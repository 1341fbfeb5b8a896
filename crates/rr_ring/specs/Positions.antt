-- Where a slot is stored.
use Rattle.std.specs.Prelude.{ℕ, ℤ, pos, unsigned_abs}
use Rattle.std.specs.Int.{int_rem_euclid}

-- the position of a slot in a ring of `rows` rows
unfoldable pub position_of : ℕ → ℤ → ℕ
position_of rows slot = unsigned_abs (int_rem_euclid slot (pos rows))
