-- How a call changes a state.
use Rattle.std.specs.Prelude.{◌≡◌, OnErr, OnOk, Result}

-- it made one state into another, or was refused and left it as it was
pub record Becomes {S X E : Type 0} (old after new : S) (result : Result X E) : Type 0 where
  pub made : OnOk result (new ≡ after)
  pub unchanged : OnErr result (new ≡ old)
