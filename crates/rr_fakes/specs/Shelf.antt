-- A shelf over memory, and its calls.
use Rattle.std.specs.Prelude.{◌≡◌, ℕ, ◌+◌, nat_lt, List, [], length, slice_get, Option, None, Some, if◌then◌else◌}
use Rattle.rr_io.specs.declared.counted.Counted.{Counted}
use Rattle.rr_fakes.specs.Log.{Log, HasNoted}
use Rattle.rr_host.specs.Streams.{Output, output_of}
use Rattle.rr_node.specs.Shelf.{ShelfCall, counts, opened, own_origin, past_horizon, peer_failed, pulled, put_back, save_failed, taken, unopened, unwanted}
use Rattle.rr_node.specs.declared.shelf.Opening.{Opening}
use Rattle.rr_node.specs.declared.shelf.Opening.TheVariants as opening
use Rattle.rr_fakes.specs.declared.shelf.PreparedOpening.{PreparedOpening}
use Rattle.rr_fakes.specs.declared.shelf.PreparedOpening.TheVariants as prepared
use Rattle.rr_fakes.specs.declared.shelf.ShelfNote.{ShelfNote}
use Rattle.rr_fakes.specs.declared.shelf.ShelfNote.TheVariants as note

-- what it opens for each snapshot, in order; which comes next; and its calls
pub record ShelfState : Type 0 where
  pub openings : List PreparedOpening
  pub place : ℕ
  pub log : Log ShelfCall

-- a call was noted, and nothing else changed
pub record Notes (call : ShelfCall) (old new : ShelfState) : Type 0 where
  pub noted : HasNoted call old.log new.log
  pub openings : new.openings ≡ old.openings
  pub place : new.place ≡ old.place

-- an output over memory, before its first call
abbrev pub new_output : Output
new_output = record { written = Some []; failures = 0 }

-- the call that opens this; once all are used, no snapshot is wanted
abbrev pub opening_of : Option PreparedOpening → ShelfCall
opening_of (Some prepared.Writer) = opened new_output
opening_of (Some prepared.Unwanted) = unwanted
opening_of (Some prepared.Failed) = unopened
opening_of None = unwanted

abbrev pub next_call : ShelfState → ShelfCall
next_call s = opening_of (slice_get s.openings s.place)

-- the place after that
abbrev pub next_place : ShelfState → ℕ
next_place s = if nat_lt s.place (length s.openings) then s.place + 1 else s.place

-- the call with this answer
abbrev pub opening_call : {W : Type 0} → (Counted W → Output) → Opening W → ShelfCall
opening_call output (opening.Writer writer) = opened (output writer)
opening_call output opening.Unwanted = unwanted
opening_call output opening.Failed = unopened

-- a call that was noted
abbrev pub noted_call : ShelfNote → ShelfCall
noted_call (note.LinesTaken report) = taken report
noted_call (note.OwnOrigin number) = own_origin number
noted_call (note.PeerFailed number fault) = peer_failed number fault
noted_call (note.PastHorizon samples) = past_horizon samples
noted_call (note.CountsCells wanted) = counts wanted
noted_call (note.PullsEnded cells) = pulled cells
noted_call (note.Opened it) = opening_of (Some it)
noted_call (note.TookBack output whole) = put_back (output_of (λ w. Some w.items) output) whole
noted_call (note.SaveFailed fault) = save_failed fault
