-- Connections over memory, and their calls.
use Rattle.std.specs.Prelude.{◌≡◌, ℕ, ◌+◌, ◌*◌, ◌-◌, ◌^◌, nat_lt, min, List, [], length, slice_get, Option, None, Some, if◌then◌else◌}
use Rattle.rr_fakes.specs.declared.visits.Entry.{Entry}
use Rattle.rr_fakes.specs.declared.visits.Entry.TheVariants as entry
use Rattle.rr_fakes.specs.Log.{HasNoted, Log}
use Rattle.rr_host.specs.Streams.{new_stream, stream_of}
use Rattle.rr_host.specs.Visits.{Call, Differs, Gave, Failed, Over, TookBack}

-- prepared connections: the bytes that each brings, or none for one that fails; which comes next; and the calls
pub record PreparedState : Type 0 where
  pub inputs : List (Option (List ℕ))
  pub place : ℕ
  pub log : Log Call

-- before the first call: there is room for three calls of each connection and one more
abbrev pub at_start : List (Option (List ℕ)) → PreparedState
at_start inputs = record {
  inputs = inputs;
  place = 0;
  log = record { calls = Some []; room = min (length inputs * 3 + 1) (2 ^ 64 - 1) };
}

-- the call that gives the connection at a place
abbrev pub giving : Option (Option (List ℕ)) → Call
giving (Some (Some bytes)) = Gave (new_stream bytes)
giving (Some None) = Failed
giving None = Over

abbrev pub next_call : PreparedState → Call
next_call p = giving (slice_get p.inputs p.place)

-- the place after that
abbrev pub next_place : PreparedState → ℕ
next_place p = if nat_lt p.place (length p.inputs) then p.place + 1 else p.place

-- a call was noted, the connections are as they were, and the one at the place `next` comes next
pub record Notes (call : Call) (next : ℕ) (old new : PreparedState) : Type 0 where
  pub noted : HasNoted call old.log new.log
  pub inputs : new.inputs ≡ old.inputs
  pub place : new.place ≡ next

-- a call that was noted
abbrev pub noted_call : Entry → Call
noted_call (entry.Gave input) = Gave (new_stream input.now)
noted_call entry.Failed = Failed
noted_call entry.Over = Over
noted_call entry.Differs = Differs
noted_call (entry.TookBack input output) = TookBack (stream_of (λ r. Some r.now) (λ w. Some w.items) input output)
