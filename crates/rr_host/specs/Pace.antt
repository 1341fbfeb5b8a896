-- The pace of something that is done at most once an interval.
use Rattle.std.specs.Prelude.{ℕ, ◌+◌, ◌*◌, ◌-◌, ◌/◌, ◌^◌, ◌==◌, nat_le, min, Bool, true, Option, None, Some, if◌then◌else◌}
use Rattle.std.specs.Time.{instant_nanos}
use Rattle.std.specs.declared.time.Instant.{Instant}
use Rattle.rr_host.specs.declared.pace.TheConstants.{MOST_PASSED}

-- the seconds of an interval, if there is one, when it was done last, and for how many intervals it is passed over
pub record PaceState : Type 0 where
  pub every : Option ℕ
  pub last : Option Instant
  pub passed : ℕ

-- for how many intervals it is passed over after one more failure: 1, 2, 4 and so on, up to a limit
abbrev pub passed_next : ℕ → ℕ
passed_next passed = if passed == 0 then 1 else min (passed * 2) MOST_PASSED

-- a number, or the greatest one of 64 bits
abbrev pub within_64_bits : ℕ → ℕ
within_64_bits n = min n (2 ^ 64 - 1)

-- whether this many seconds are as long as an interval and those that are passed over
abbrev pub is_past : (elapsed every passed : ℕ) → Bool
is_past elapsed every passed = nat_le (within_64_bits (every * within_64_bits (passed + 1))) elapsed

-- whole seconds; none if the clock went back
abbrev pub seconds_between : Instant → Instant → ℕ
seconds_between last now = (instant_nanos now - instant_nanos last) / 1_000_000_000

-- whether it is due, by the seconds of an interval, when it was done last, and now: it is if one of these is missing
abbrev pub is_due_by : Option ℕ → Option Instant → Option Instant → ℕ → Bool
is_due_by (Some every) (Some last) (Some now) passed = is_past (seconds_between last now) every passed
is_due_by None last now passed = true
is_due_by (Some every) None now passed = true
is_due_by (Some every) (Some last) None passed = true

abbrev pub is_due : PaceState → Option Instant → Bool
is_due p now = is_due_by p.every p.last now p.passed
