-- What a counted stream shows, and what a failed call does to its count.
use Rattle.std.specs.Prelude.{◌≡◌, ℕ, ◌+◌, ◌-◌, ◌^◌, ◌<◌, Bool, true, false, not, ◌&&◌, ◌==◌, min, Result, Ok, Err, ◌⊎◌, if◌then◌else◌}
use Rattle.rr_io.specs.declared.counted.Counted.{Counted}

-- the reader or writer inside
abbrev pub inner_of : {S : Type 0} → Counted S → S
inner_of c = c.inner

-- how many times it was read, up to the greatest number of 64 bits
abbrev pub reads_of : {S : Type 0} → Counted S → ℕ
reads_of c = c.reads

-- how many of its reads met the end, up to the greatest number of 64 bits
abbrev pub ends_of : {S : Type 0} → Counted S → ℕ
ends_of c = c.ends

-- nothing was written since it was last flushed
abbrev pub is_flushed : {S : Type 0} → Counted S → Bool
is_flushed c = c.flushed

-- how many of its calls failed, up to the greatest number of 64 bits
abbrev pub failures_of : {S : Type 0} → Counted S → ℕ
failures_of c = c.failures

-- one more call: the greatest number stays
abbrev pub one_more : ℕ → ℕ
one_more n = if n == 2 ^ 64 - 1 then n else n + 1

-- a read into a buffer of this length met the end: it gave no byte, though there was room
abbrev pub is_end_read : {E : Type 0} → Result ℕ E → ℕ → Bool
is_end_read (Ok given) room = (given == 0) && not (room == 0)
is_end_read (Err e) room = false

-- a write of a piece of this length failed: it says so, or took no byte of a piece that isn't empty
abbrev pub is_failed_write : {E : Type 0} → Result ℕ E → ℕ → Bool
is_failed_write (Ok taken) len = (taken == 0) && not (len == 0)
is_failed_write (Err e) len = true

-- a call failed since the count was `old`, as far as counts can tell: it rose, or is at its greatest value
abbrev pub HasRisen : ℕ → ℕ → Type 0
HasRisen old new = (old < new) ⊎ (new ≡ 2 ^ 64 - 1)

-- this many calls were made since the count was `old`, a number of 64 bits: it rose by them, up to
-- the greatest one
abbrev pub HasRisenBy : ℕ → ℕ → ℕ → Type 0
HasRisenBy n old new = old < 2 ^ 64 → new ≡ min (old + n) (2 ^ 64 - 1)
