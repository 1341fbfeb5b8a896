-- What replaying the records of a stream makes of a replica.
use Rattle.std.specs.Prelude.{◌≡◌, ◌⊎◌, ℕ, ◌==◌, ◌%◌, List, [], ◌∷◌, Option, None, Some, Result, Ok, Err, if◌then◌else◌}
use Rattle.rr_text.specs.Results.{◌>>=◌}
use Rattle.rr_journal.specs.declared.cursor.Cursor.{Cursor}
use Rattle.rr_journal.specs.declared.step.Stop.{Stop}
use Rattle.rr_journal.specs.Body.{origin_of}
use Rattle.rr_journal.specs.Cursor.{behind_all}
use Rattle.rr_journal.specs.Reading.{records_of, stop_of}
use Rattle.rr_journal.specs.Text.{Raw}
use Rattle.rr_recovery.specs.declared.fault.RecoveryFault.{RecoveryFault}
use Rattle.rr_recovery.specs.declared.fault.RecoveryFault.TheVariants.{ReadFailed, Memory}
use Rattle.rr_recovery.specs.declared.origins.TheConstants.{ORIGIN, FIRST}
use Rattle.rr_recovery.specs.Taking.{Recovery, as_bad, taken_records}

-- bytes at a place were read up to where no whole record is, which is the place now; and why is given
pub record ReadsAll (old new : Cursor) (bytes : List ℕ) (told : Stop) : Type 0 where
  pub place : new ≡ behind_all old (records_of old.digest bytes).0
  pub stop : told ≡ stop_of old.digest bytes

-- the reader failed, memory ran out, or this is the fault
abbrev pub IsFaultOf : {A : Type 0} → Result A RecoveryFault → RecoveryFault → Type 0
IsFaultOf answer fault = (fault ≡ ReadFailed) ⊎ (fault ≡ Memory) ⊎ (answer ≡ Err fault)

-- all records at the beginning of the bytes from a place on were taken, one after the other; or this is why they can't
-- all be taken
abbrev pub Replays : Cursor → Cursor → Recovery → Recovery → List ℕ → Result Stop RecoveryFault → Type 0
Replays place new_place old new bytes (Ok stop) =
    (taken_records old (records_of place.digest bytes).0 ≡ Ok new) × ReadsAll place new_place bytes stop
Replays place new_place old new bytes (Err fault) = IsFaultOf (taken_records old (records_of place.digest bytes).0) fault

-- ---- origins alone

-- the origin that a record states, if it is one of an origin; else the one before it
abbrev pub origin_after : Option ℕ → Raw → Result (Option ℕ) RecoveryFault
origin_after before r =
    if r.kind % FIRST == ORIGIN then (as_bad (origin_of r.body) >>= λ origin. Ok (Some origin)) else Ok before

-- the origin that the last such record states, if there is one; else the one before them
abbrev pub last_origin : Option ℕ → List Raw → Result (Option ℕ) RecoveryFault
last_origin before [] = Ok before
last_origin before (r ∷ rs) = origin_after before r >>= λ origin. last_origin origin rs

-- the last origin was found in the records at the beginning of the bytes from a place on
abbrev pub FindsOrigin : Cursor → Cursor → List ℕ → Result (Stop × Option ℕ) RecoveryFault → Type 0
FindsOrigin place new_place bytes (Ok x) =
    (last_origin None (records_of place.digest bytes).0 ≡ Ok x.1) × ReadsAll place new_place bytes x.0
FindsOrigin place new_place bytes (Err fault) = IsFaultOf (last_origin None (records_of place.digest bytes).0) fault
