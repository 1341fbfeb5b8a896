-- The moments that a clock gave.
use Rattle.std.specs.Prelude.{◌≡◌, ℤ, List, ◌++◌, Option, None, Some}

-- a clock that had given `before` has given these moments since, as far as it is known: once unknown, it stays unknown
abbrev pub HasGiven : Option (List ℤ) → Option (List ℤ) → List ℤ → Type 0
HasGiven None None moments = Unit {0}
HasGiven None (Some since) moments = ⊥
HasGiven (Some before) None moments = Unit {0}
HasGiven (Some before) (Some since) moments = since ≡ before ++ moments
