-- What calls that read files did.
use Rattle.std.specs.Prelude.{◌≡◌, ◌⊎◌, ℕ, List, None, Some, Result, Ok, Err}
use Rattle.std.specs.FinMap.{empty}
use Rattle.rr_cells.specs.ReplicaState.{ReplicaState}
use Rattle.rr_schema.specs.Schema.{Layout}
use Rattle.rr_journal.specs.declared.cursor.Cursor.{Cursor}
use Rattle.rr_journal.specs.declared.step.Stop.{Stop}
use Rattle.rr_journal.specs.Cursor.{behind_all}
use Rattle.rr_journal.specs.Reading.{records_of, stop_of}
use Rattle.rr_recovery.specs.Found.{found_state, nothing_found}
use Rattle.rr_recovery.specs.Taking.{Recovery, recovery, taken_records}
use Rattle.rr_replica.specs.ReplicaWithRoom.{ReplicaWithRoom}
use Rattle.rr_directory.specs.declared.fault.FileFault.{FileFault}
use Rattle.rr_directory.specs.declared.fault.FileFault.TheVariants as file
use Rattle.rr_directory.specs.declared.fault.Refusal.{Refusal}
use Rattle.rr_directory.specs.declared.recovered.Recovered.{Recovered}
use Rattle.rr_directory.specs.Reading.{IsFileFault, Reached, as_file}

abbrev pub reached : ReplicaWithRoom → Recovered → Reached
reached replica r = record { place = r.end; recovery = recovery replica r.found; torn = r.torn }

-- a replica that holds nothing
abbrev pub empty_state : Layout → ℕ → ReplicaState
empty_state s origin = record { schema = s; origin = origin; next = 1; cells = empty }

-- before the first file
abbrev pub first_reached : ReplicaState → Reached
first_reached h =
    record { place = None; recovery = record { replica = h; found = nothing_found }; torn = 0 }

pub record IsNothing (r : Recovered) : Type 0 where
  pub found : found_state r.found ≡ nothing_found
  pub end : r.end ≡ None
  pub torn : r.torn ≡ 0

-- the records at a place were taken; the place behind them is given, and why no more follow
abbrev pub ReplaysFile : Cursor → List ℕ → Recovery → Recovery → Result (Cursor × Stop) FileFault → Type 0
ReplaysFile begins bytes old new (Ok x) =
    (as_file (taken_records old (records_of begins.digest bytes).0) ≡ Ok new)
    × (x.0 ≡ behind_all begins (records_of begins.digest bytes).0) × (x.1 ≡ stop_of begins.digest bytes)
ReplaysFile begins bytes old new (Err fault) =
    IsFileFault (as_file (taken_records old (records_of begins.digest bytes).0)) fault

-- a checkpoint that begins at a place was taken
abbrev pub TakesCheckpoint : Cursor → Recovery → Result Reached FileFault → Result (Unit {0}) FileFault → Type 0
TakesCheckpoint begins new answer (Ok done) = answer ≡ Ok (record { place = Some begins; recovery = new; torn = 0 })
TakesCheckpoint begins new answer (Err fault) = IsFileFault answer fault

-- a file of the journal was
abbrev pub TakesJournal : Recovery → Result Reached FileFault → Result (Cursor × ℕ) FileFault → Type 0
TakesJournal new answer (Ok x) = answer ≡ Ok (record { place = Some x.0; recovery = new; torn = x.1 })
TakesJournal new answer (Err fault) = IsFileFault answer fault

-- a file was read
abbrev pub Reads : Reached → Result Reached FileFault → Result (Unit {0}) FileFault → Type 0
Reads new answer (Ok done) = answer ≡ Ok new
Reads new answer (Err fault) = IsFileFault answer fault

-- files were, or the first of them that a node doesn't start from is named, unless a read failed or memory ran out
abbrev pub Recovers : ReplicaWithRoom → Result Reached Refusal → Result Recovered Refusal → Type 0
Recovers replica answer (Ok r) = answer ≡ Ok (reached replica r)
Recovers replica answer (Err refusal) =
    (refusal.fault ≡ file.ReadFailed) ⊎ (refusal.fault ≡ file.Memory) ⊎ (answer ≡ Err refusal)
