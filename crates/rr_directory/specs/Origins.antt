-- The last origin of the files of a directory.
use Rattle.std.specs.Prelude.{◌≡◌, ◌⊎◌, ℕ, List, [], ◌∷◌, Option, None, Some, Result, Ok, Err}
use Rattle.rr_text.specs.Results.{◌>>=◌}
use Rattle.rr_schema.specs.Schema.{Layout}
use Rattle.rr_recovery.specs.Replaying.{last_origin}
use Rattle.rr_directory.specs.declared.fault.FileFault.{FileFault}
use Rattle.rr_directory.specs.declared.fault.FileFault.TheVariants as file
use Rattle.rr_directory.specs.declared.fault.Refusal.{Refusal}
use Rattle.rr_directory.specs.declared.name.FileName.{FileName}
use Rattle.rr_directory.specs.declared.name.FileName.TheVariants.{Journal, Checkpoint}
use Rattle.rr_directory.specs.Reading.{IsFileFault, as_file, file_records, named, place_of}

-- an origin, or if there is none, the one before it
abbrev pub later : Option ℕ → Option ℕ → Option ℕ
later None before = before
later (Some origin) before = Some origin

-- the origin that the last such record in a file of the journal states, or the one before the file
abbrev pub origin_after_journal : Layout → Option ℕ → FileName → List ℕ → Result (Option ℕ) FileFault
origin_after_journal s before name bytes =
    place_of s name bytes >>= λ begins. as_file (last_origin None (file_records s begins bytes)) >>= λ origin. Ok
    (later origin before)

-- the last one after a file: origins are recorded in the journal alone, so none is taken from a checkpoint, whatever
-- its bytes
abbrev pub origin_after : Layout → Option ℕ → FileName → List ℕ → Result (Option ℕ) FileFault
origin_after s before (Checkpoint offset) bytes = Ok before
origin_after s before (Journal offset) bytes = origin_after_journal s before (Journal offset) bytes

-- the last one after files, or the one before them
abbrev pub last_origin_in : Layout → (FileName → List ℕ) → Option ℕ → List FileName → Result (Option ℕ) Refusal
last_origin_in s bytes before [] = Ok before
last_origin_in s bytes before (name ∷ names) =
    named name (origin_after s before name (bytes name)) >>= λ origin. last_origin_in s bytes origin names

-- it was found in a file, and in files
abbrev pub FindsOriginIn : Result (Option ℕ) FileFault → Result (Option ℕ) FileFault → Type 0
FindsOriginIn answer (Ok origin) = answer ≡ Ok origin
FindsOriginIn answer (Err fault) = IsFileFault answer fault

abbrev pub FindsLast : Result (Option ℕ) Refusal → Result (Option ℕ) Refusal → Type 0
FindsLast answer (Ok origin) = answer ≡ Ok origin
FindsLast answer (Err refusal) =
    (refusal.fault ≡ file.ReadFailed) ⊎ (refusal.fault ≡ file.Memory) ⊎ (answer ≡ Err refusal)
