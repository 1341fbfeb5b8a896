-- What the bytes of a file tell that aren't read as records.
use Rattle.std.specs.Prelude.{◌≡◌, ◌⊎◌, ℕ, ◌-◌, Bool, false, List, length, drop, slice_get, Option, None, Some, Result, Ok, Err, if◌then◌else◌}
use Rattle.rr_text.specs.Results.{◌>>=◌, unless_faulty}
use Rattle.rr_schema.specs.Schema.{Layout}
use Rattle.rr_journal.specs.declared.cursor.Cursor.{Cursor}
use Rattle.rr_journal.specs.declared.fault.JournalFault.TheVariants.{BadDigest}
use Rattle.rr_journal.specs.Witness.{was_synced}
use Rattle.rr_directory.specs.declared.fault.FileFault.{FileFault}
use Rattle.rr_directory.specs.declared.fault.FileFault.TheVariants as file
use Rattle.rr_directory.specs.declared.fault.Refusal.{Refusal}
use Rattle.rr_directory.specs.declared.name.FileName.{FileName}
use Rattle.rr_directory.specs.Reading.{Reached, after_files}

-- the last bytes of a file
abbrev pub tail_of : ℕ → List ℕ → List ℕ
tail_of len bytes = drop (length bytes - len) bytes

-- whether they, which are of the journal from an offset on, were synced at least in part; without the key of the witnesses
-- nobody can tell
abbrev pub is_synced_tail : Option (List ℕ) → ℕ → ℕ → List ℕ → Bool
is_synced_tail None offset len bytes = false
is_synced_tail (Some key) offset len bytes = was_synced key offset (tail_of len bytes)

-- why a node doesn't start from a file whose last bytes aren't read
abbrev pub tail_fault : Option (List ℕ) → ℕ → ℕ → List ℕ → Option FileFault
tail_fault key offset len bytes =
    if is_synced_tail key offset len bytes then Some (file.Damaged (length bytes - len) BadDigest) else None

-- the name of the last of some files
abbrev pub last_name : List FileName → Option FileName
last_name names = slice_get names (length names - 1)

-- a file's fault, with its name
abbrev pub refusal_of : FileName → Option FileFault → Option Refusal
refusal_of name None = None
refusal_of name (Some fault) = Some (record { file = name; fault = fault })

-- why a node doesn't start from the last file, whose last bytes, behind the place that was reached, aren't read
abbrev pub last_fault : Option (List ℕ) → (FileName → List ℕ) → Option FileName → Option Cursor → ℕ → Option Refusal
last_fault key bytes None end len = None
last_fault key bytes (Some name) None len = None
last_fault key bytes (Some name) (Some end) len = refusal_of name (tail_fault key end.offset len (bytes name))

-- after these files, of which the last one may end in a tail that a crash tore, but in none that was synced
abbrev pub recovered_files : Layout → Option (List ℕ) → (FileName → List ℕ) → Reached → List FileName
    → Result Reached Refusal
recovered_files s key bytes x names =
    after_files s bytes x names >>= λ y. unless_faulty (last_fault key bytes (last_name names) y.place y.torn) y

-- the tail of a file was checked
abbrev pub ChecksTail : Option FileFault → Result (Unit {0}) FileFault → Type 0
ChecksTail answer (Ok done) = answer ≡ None
ChecksTail answer (Err fault) = (fault ≡ file.ReadFailed) ⊎ (fault ≡ file.Memory) ⊎ (answer ≡ Some fault)

-- so was that of the last file
abbrev pub ChecksLast : Option Refusal → Result (Unit {0}) Refusal → Type 0
ChecksLast answer (Ok done) = answer ≡ None
ChecksLast answer (Err refusal) =
    (refusal.fault ≡ file.ReadFailed) ⊎ (refusal.fault ≡ file.Memory) ⊎ (answer ≡ Some refusal)
