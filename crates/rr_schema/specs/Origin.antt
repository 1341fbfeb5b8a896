-- Origins, each the number of a replica.
use Rattle.std.specs.Prelude.{ℕ, ◌≤◌}
use Rattle.rr_text.specs.declared.limits.TheConstants.{MAX_ORIGIN}

-- a number from 1 to 65,535
pub record IsOrigin (number : ℕ) : Type 0 where
  pub at_least : 1 ≤ number
  pub at_most : number ≤ MAX_ORIGIN
