-- A clock over memory, and the moments that it gives.
use Rattle.std.specs.Prelude.{ℕ, zero, suc, ◌-◌, ◌^◌, ◌==◌, ℤ, pos, List, [], ◌∷◌, ◌++◌, Option, None, Some, if◌then◌else◌}

-- the moment at a place, or the last one past the end; 0 if there are none
abbrev pub moment_at : List ℤ → ℕ → ℤ
moment_at [] place = pos 0
moment_at (moment ∷ []) place = moment
moment_at (moment ∷ next ∷ later) zero = moment
moment_at (moment ∷ next ∷ later) (suc place) = moment_at (next ∷ later) place

-- the first moments given by a clock that has these
abbrev pub first_moments : List ℤ → ℕ → List ℤ
first_moments moments zero = []
first_moments moments (suc count) = first_moments moments count ++ moment_at moments count ∷ []

-- a clock over memory: the moments that it has, and how many times it was asked and renewed, each up to the greatest
-- number of 64 bits
pub record MomentsState : Type 0 where
  pub moments : List ℤ
  pub asked : ℕ
  pub renewals : ℕ

-- what such a clock gave, until the count of times it was asked is at its greatest
abbrev pub given_by : MomentsState → Option (List ℤ)
given_by c = if c.asked == 2 ^ 64 - 1 then None else Some (first_moments c.moments c.asked)
