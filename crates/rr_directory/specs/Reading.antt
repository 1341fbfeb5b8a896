-- What the files of a directory make of a replica, one after the other.
use Rattle.std.specs.Prelude.{◌≡◌, ℕ, ◌-◌, nat_lt, nat_eq, ◌==◌, not, Bool, true, false, ◌||◌, List, [], ◌∷◌, length, drop, take, Option, None, Some, unwrap_or, Result, Ok, Err, ◌⊎◌, if◌then◌else◌}
use Rattle.std.specs.Cmp.Lexicographic.{pointwise}
use Rattle.rr_text.specs.Results.{◌>>=◌, unless, unless_faulty}
use Rattle.rr_schema.specs.Schema.{Layout}
use Rattle.rr_journal.specs.declared.cursor.Cursor.{Cursor}
use Rattle.rr_journal.specs.declared.fault.JournalFault.{JournalFault}
use Rattle.rr_journal.specs.declared.step.Stop.{Stop}
use Rattle.rr_journal.specs.declared.step.Stop.TheVariants.{End, Torn, Damaged}
use Rattle.rr_journal.specs.Cursor.{behind_all, moved_by, start}
use Rattle.rr_journal.specs.Header.{header_at, header_len}
use Rattle.rr_journal.specs.Reading.{records_of, stop_of}
use Rattle.rr_journal.specs.Text.{Raw}
use Rattle.rr_recovery.specs.declared.fault.RecoveryFault.{RecoveryFault}
use Rattle.rr_recovery.specs.Found.{FoundState}
use Rattle.rr_recovery.specs.Taking.{Recovery, taken_records}
use Rattle.rr_directory.specs.declared.fault.FileFault.{FileFault}
use Rattle.rr_directory.specs.declared.fault.FileFault.TheVariants as file
use Rattle.rr_directory.specs.declared.fault.Refusal.{Refusal}
use Rattle.rr_directory.specs.declared.name.FileName.{FileName}
use Rattle.rr_directory.specs.declared.name.FileName.TheVariants.{Journal, Checkpoint}
use Rattle.rr_directory.specs.Fault.{of_header, of_recovery}
use Rattle.rr_directory.specs.Names.{offset_of}

-- ---- results with a file's faults

abbrev pub as_header : {A : Type 0} → Result A JournalFault → Result A FileFault
as_header (Ok x) = Ok x
as_header (Err fault) = Err (of_header fault)

abbrev pub as_file : {A : Type 0} → Result A RecoveryFault → Result A FileFault
as_file (Ok x) = Ok x
as_file (Err fault) = Err (of_recovery fault)

-- the reader failed, memory ran out, or this is the fault
abbrev pub IsFileFault : {A : Type 0} → Result A FileFault → FileFault → Type 0
IsFileFault answer fault = (fault ≡ file.ReadFailed) ⊎ (fault ≡ file.Memory) ⊎ (answer ≡ Err fault)

-- ---- where a file begins

-- the place that a header names, if its offset is that of the file's name
abbrev pub named_place : FileName → Result Cursor JournalFault → Result Cursor FileFault
named_place name begins = as_header begins >>= λ c. unless file.Misnamed (not (c.offset == offset_of name)) (Ok c)

-- where a file begins
abbrev pub place_of : Layout → FileName → List ℕ → Result Cursor FileFault
place_of s name bytes = named_place name (header_at s (take (header_len s) bytes) >>= λ h. Ok h.0)

-- what a file has behind its header
abbrev pub records_bytes : Layout → List ℕ → List ℕ
records_bytes s bytes = drop (header_len s) bytes

-- where the journal's next file has to begin: at the journal's beginning, if nothing of it was read
abbrev pub due_place : Option Cursor → Cursor → Cursor
due_place reached begins = unwrap_or reached (start begins.id)

-- why a file that begins at one place doesn't join what was read up to another
abbrev pub join_fault : Cursor → Cursor → Option FileFault
join_fault due begins =
    if not (pointwise nat_eq begins.id due.id) then Some file.OtherJournal
    else (if nat_lt due.offset begins.offset then Some (file.FileMissing due.offset)
    else (if nat_lt begins.offset due.offset || not (pointwise nat_eq begins.digest due.digest) then Some file.NotChained
    else None))

-- ---- where it ends

-- how many bytes of a file that begins at one place stand before another
abbrev pub bytes_before : Layout → Cursor → Cursor → ℕ
bytes_before s begins place = moved_by (place.offset - begins.offset) (header_len s)

-- why a node doesn't start from a checkpoint, by why its reading stopped and whether as many cells were read as its end
-- states
abbrev pub checkpoint_fault : Stop → Bool → ℕ → Option FileFault
checkpoint_fault (Damaged fault) whole at = Some (file.Damaged at fault)
checkpoint_fault Torn whole at = Some file.Torn
checkpoint_fault End whole at = if whole then None else Some file.NotWhole

-- and why it doesn't from a file of the journal, by whether it is the last one
abbrev pub journal_fault : Stop → Bool → ℕ → Option FileFault
journal_fault (Damaged fault) last at = Some (file.Damaged at fault)
journal_fault Torn last at = if last then None else Some file.Torn
journal_fault End last at = None

-- how many bytes are left behind a place, if the tail is torn
abbrev pub torn_len : Stop → ℕ → ℕ → ℕ
torn_len Torn len at = len - at
torn_len End len at = 0
torn_len (Damaged fault) len at = 0

-- whether an end, if there is one, states this number
abbrev pub states : Option ℕ → ℕ → Bool
states None cells = false
states (Some count) cells = count == cells

-- whether as many cells were read as the last end says
abbrev pub is_whole : FoundState → Bool
is_whole found = states found.end found.cells

-- ---- files, one after the other

-- how far the journal was read, what was recovered, and how many bytes the torn tail of the last file has
pub record Reached : Type 0 where
  pub place : Option Cursor
  pub recovery : Recovery
  pub torn : ℕ

-- the records of a file that begins at a place, and why no more follow
abbrev pub file_records : Layout → Cursor → List ℕ → List Raw
file_records s begins bytes = (records_of begins.digest (records_bytes s bytes)).0

abbrev pub file_stop : Layout → Cursor → List ℕ → Stop
file_stop s begins bytes = stop_of begins.digest (records_bytes s bytes)

-- after a checkpoint that begins at a place, the journal is read from that place on
unfoldable pub after_checkpoint : Layout → Recovery → Cursor → List ℕ → Result Reached FileFault
after_checkpoint s x begins bytes = do
  y ← as_file (taken_records x (file_records s begins bytes))
  let end = behind_all begins (file_records s begins bytes) in
      unless_faulty (checkpoint_fault (file_stop s begins bytes) (is_whole y.found) (bytes_before s begins end))
      (record { place = Some begins; recovery = y; torn = 0 })

-- after a file of the journal, from its end on
unfoldable pub after_journal : Layout → Bool → Recovery → Cursor → List ℕ → Result Reached FileFault
after_journal s last x begins bytes = do
  y ← as_file (taken_records x (file_records s begins bytes))
  let end = behind_all begins (file_records s begins bytes) in
      unless_faulty (journal_fault (file_stop s begins bytes) last (bytes_before s begins end)) (record {
        place = Some end;
        recovery = y;
        torn = torn_len (file_stop s begins bytes) (length bytes) (bytes_before s begins end);
      })

-- a file of the journal is read only if it joins what was read
abbrev pub after_joined : Layout → Bool → Reached → Cursor → List ℕ → Result Reached FileFault
after_joined s last x begins bytes =
    (unless_faulty (join_fault (due_place x.place begins) begins) begins) >>= λ place. after_journal s last x.recovery
    place bytes

-- after a file
abbrev pub after_file : Layout → Bool → Reached → FileName → List ℕ → Result Reached FileFault
after_file s last x (Checkpoint offset) bytes =
    place_of s (Checkpoint offset) bytes >>= λ begins. after_checkpoint s x.recovery begins bytes
after_file s last x (Journal offset) bytes =
    place_of s (Journal offset) bytes >>= λ begins. after_joined s last x begins bytes

-- a result of a file, with its name
abbrev pub named : {A : Type 0} → FileName → Result A FileFault → Result A Refusal
named name (Ok x) = Ok x
named name (Err fault) = Err (record { file = name; fault = fault })

abbrev pub is_last : {A : Type 0} → List A → Bool
is_last [] = true
is_last (x ∷ xs) = false

-- after these files, in order, up to the first that is refused
abbrev pub after_files : Layout → (FileName → List ℕ) → Reached → List FileName → Result Reached Refusal
after_files s bytes x [] = Ok x
after_files s bytes x (name ∷ names) =
    named name (after_file s (is_last names) x name (bytes name)) >>= λ y. after_files s bytes y names
