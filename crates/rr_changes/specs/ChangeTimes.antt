-- Time ranges, and what one more time makes of them.
use Rattle.std.specs.Prelude.{ℕ, ℤ, ◌-ℤ◌, int_le, int_lt, nat_le, unsigned_abs, Bool, not, ◌&&◌, ◌||◌, if◌then◌else◌}
use Rattle.std.specs.Int.{int_min, int_max}
use Rattle.rr_changes.specs.declared.time_range.TimeRange.{TimeRange}
use Rattle.rr_changes.specs.declared.time_range.ChangeTimes.{ChangeTimes}

-- whether a time is in a range
abbrev pub is_in_range : TimeRange → ℤ → Bool
is_in_range p time = int_le p.first time && int_le time p.last

-- whether no time is in a range
abbrev pub is_empty : TimeRange → Bool
is_empty p = int_lt p.last p.first

-- how far a time is from the nearest in a range
abbrev pub gap : TimeRange → ℤ → ℕ
gap p time =
    if int_lt time p.first then unsigned_abs (p.first -ℤ time)
    else (if int_lt p.last time then unsigned_abs (time -ℤ p.last) else 0)

-- a range widened to a time, with all between
abbrev pub widened : TimeRange → ℤ → TimeRange
widened p time = record { first = int_min p.first time; last = int_max p.last time }

-- ---- the two ranges of a series

-- whether a time is in one of them
abbrev pub is_in_times : ChangeTimes → ℤ → Bool
is_in_times ps time = is_in_range ps.recent time || is_in_range ps.late time

-- whether a series with these has changed: a time is in one of them
abbrev pub is_changed : ChangeTimes → Bool
is_changed ps = not (is_empty ps.recent) || not (is_empty ps.late)

-- whether a time goes to the recent range: it is empty, or this near to the time, or no farther from it than the late
-- one, which isn't empty
abbrev pub is_nearer_recent : ℕ → ChangeTimes → ℤ → Bool
is_nearer_recent near ps time =
    is_empty ps.recent || nat_le (gap ps.recent time) near
    || (not (is_empty ps.late) && nat_le (gap ps.recent time) (gap ps.late time))

-- with one more time: one of the two is widened
abbrev pub with_time : ℕ → ChangeTimes → ℤ → ChangeTimes
with_time near ps time =
    if is_nearer_recent near ps time
    then record { recent = widened ps.recent time; late = ps.late }
    else record { recent = ps.recent; late = widened ps.late time }
