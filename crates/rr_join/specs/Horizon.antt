-- The horizon of an archive that keeps a number of rows.
use Rattle.std.specs.Prelude.{ℕ, ℤ, pos, ◌-ℤ◌, Bool, true, int_lt, Option, Some, None}

-- whether a slot is one of the last rows up to the newest slot, or after it; each is if there is no newest
abbrev pub is_above : ℕ → Option ℤ → ℤ → Bool
is_above rows None slot = true
is_above rows (Some newest) slot = int_lt (newest -ℤ pos rows) slot
