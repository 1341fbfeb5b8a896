-- The room that a text leaves.
use Rattle.std.specs.Prelude.{ℕ, ◌-◌, ◌≤◌, List, length, Option, SomeIff}

-- how many bytes of some room are left after a text, if it fits
abbrev pub IsRoomAfter : List ℕ → ℕ → Option ℕ → Type 0
IsRoomAfter text room left = SomeIff left (length text ≤ room) (room - length text)
