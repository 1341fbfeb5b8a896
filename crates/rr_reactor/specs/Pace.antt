-- How fast connections move bytes, and which one is let go for its memory.
use Rattle.std.specs.Prelude.{◌≡◌, ℕ, ◌+◌, ◌-◌, ◌/◌, ◌^◌, ◌≤◌, min, Bool, ◌&&◌, ◌||◌, Option, Some, None, ⊤, ◌⊎◌, nat_le, nat_lt, if◌then◌else◌, IsTrue, IsFalse}
use Rattle.rr_reactor.specs.declared.limits.Limits.{Limits}
use Rattle.rr_reactor.specs.declared.limits.TheConstants.{SMALL}
use Rattle.rr_reactor.specs.declared.pace.Pace.{Pace}
use Rattle.rr_reactor.specs.declared.pace.Holder.{Holder}
use Rattle.rr_reactor.specs.declared.pace.TheConstants.{PARTS}

-- the bytes that moved, with those that have just moved
abbrev pub sum_moved : Pace → ℕ → ℕ
sum_moved pace moved = min (pace.moved + moved) (2 ^ 64 - 1)

-- the time begins anew if the connection waits for something else, or once a sixteenth of what is held has moved
abbrev pub paced : Pace → Bool → ℕ → ℕ → ℕ → Pace
paced pace is_new moved held now =
    if is_new || nat_le (held / PARTS) (sum_moved pace moved) then record { since = now; moved = 0 }
    else record { since = pace.since; moved = sum_moved pace moved }

-- the time in which a sixteenth was to move is over
abbrev pub is_stalled : Limits → Pace → ℕ → Bool
is_stalled limits pace now = nat_le limits.stall (now - pace.since)

-- a stalled connection may be let go for what it holds, unless that is little
abbrev pub holder : Limits → Pace → ℕ → ℕ → Bool → ℕ → Option Holder
holder limits pace key held is_kept now =
    if is_stalled limits pace now && nat_lt SMALL held then Some (record { key = key; held = held; is_kept = is_kept }) else None

-- one goes no later than another: its client is what stalls, and the other's isn't; or they are alike in that, and it
-- holds at least as much
abbrev pub GoesBefore : Holder → Holder → Type 0
GoesBefore a b = (IsFalse a.is_kept × IsTrue b.is_kept) ⊎ ((a.is_kept ≡ b.is_kept) × (b.held ≤ a.held))

abbrev pub GoesBeforeAny : Option Holder → Option Holder → Type 0
GoesBeforeAny None other = other ≡ None
GoesBeforeAny (Some a) None = ⊤
GoesBeforeAny (Some a) (Some b) = GoesBefore a b

-- the one of two connections, if there are any, that goes first
pub record IsFirstToFree (first second chosen : Option Holder) : Type 0 where
  pub one : (chosen ≡ first) ⊎ (chosen ≡ second)
  pub before_first : GoesBeforeAny chosen first
  pub before_second : GoesBeforeAny chosen second
