-- A stream with one call that fails: what it shows, and what a call does to it.
use Rattle.std.specs.Prelude.{◌≡◌, ℕ, ◌-◌, ◌==◌, Bool, true, false, Result, IsErr, Option, None, Some, if◌then◌else◌}
use Rattle.rr_io.specs.declared.failing.Failing.{Failing}

-- the reader or writer inside
abbrev pub stream_in : {S : Type 0} → Failing S → S
stream_in f = f.inner

-- how many calls are passed on before one fails; none once one has
abbrev pub calls_left : {S : Type 0} → Failing S → Option ℕ
calls_left f = f.left

-- the next call is the one that fails
abbrev pub fails_next : Option ℕ → Bool
fails_next None = false
fails_next (Some left) = left == 0

-- after one more call
abbrev pub one_call_less : Option ℕ → Option ℕ
one_call_less None = None
one_call_less (Some left) = if left == 0 then None else Some (left - 1)

-- a call was counted, and the one that is to fail was refused and moved no byte
pub record CountsCall {S X E : Type 0} (old new : Failing S) (result : Result X E) : Type 0 where
  pub calls : calls_left new ≡ one_call_less (calls_left old)
  pub fails : fails_next (calls_left old) ≡ true → IsErr result
  pub unchanged : fails_next (calls_left old) ≡ true → stream_in new ≡ stream_in old
