-- What reading a file by itself gives.
use Rattle.std.specs.Prelude.{◌≡◌, ◌≢◌, ◌⊎◌, ℕ, ◌-◌, Bool, false, List, length, Option, Result, Ok, Err, if◌then◌else◌}
use Rattle.rr_text.specs.Results.{◌>>=◌}
use Rattle.rr_schema.specs.Schema.{Layout}
use Rattle.rr_journal.specs.declared.cursor.Cursor.{Cursor}
use Rattle.rr_journal.specs.Cursor.{behind_all, moved_by}
use Rattle.rr_journal.specs.Header.{header_len}
use Rattle.rr_cells.specs.ReplicaState.{ReplicaState}
use Rattle.rr_journal.specs.declared.fault.JournalFault.TheVariants.{SchemaDiffers}
use Rattle.rr_recovery.specs.Found.{nothing_found}
use Rattle.rr_recovery.specs.Taking.{Recovery, taken_records}
use Rattle.rr_directory.specs.declared.fault.FileFault.{FileFault}
use Rattle.rr_directory.specs.declared.fault.FileFault.TheVariants as file
use Rattle.rr_directory.specs.declared.name.FileName.{FileName}
use Rattle.rr_directory.specs.declared.name.FileName.TheVariants.{Checkpoint}
use Rattle.rr_directory.specs.declared.report.FileEnding.{FileEnding}
use Rattle.rr_directory.specs.declared.report.FileEnding.TheVariants.{End, Torn, Damaged, Refused}
use Rattle.rr_directory.specs.declared.report.FileReport.{FileReport}
use Rattle.rr_directory.specs.Names.{offset_of}
use Rattle.rr_directory.specs.Reading.{IsFileFault, as_file, bytes_before, file_records, file_stop, is_whole, place_of}
use Rattle.rr_directory.specs.Recovering.{empty_state}
use Rattle.rr_directory.specs.Report.{ending_of}
use Rattle.rr_directory.specs.Schemas.{IsWholeUnder}
use Rattle.rr_directory.specs.Tail.{is_synced_tail}

-- what the records of a file make
abbrev pub taken_file : Layout → FileName → Recovery → List ℕ → Result Recovery FileFault
taken_file s name x bytes = place_of s name bytes >>= λ begins. as_file (taken_records x (file_records s begins bytes))

-- the records of a file were taken, and how it ends is given
abbrev pub Surveys : Layout → FileName → List ℕ → Recovery → Recovery → Result FileEnding FileFault → Type 0
Surveys s name bytes old new (Ok ending) =
    (taken_file s name old bytes ≡ Ok new)
    × ((begins : Cursor) → place_of s name bytes ≡ Ok begins
    → ending ≡ ending_of (file_stop s begins bytes) (length bytes)
    (bytes_before s begins (behind_all begins (file_records s begins bytes))))
Surveys s name bytes old new (Err fault) = IsFileFault (taken_file s name old bytes) fault

-- the offset of the journal at which the last bytes of a file begin
abbrev pub tail_offset : Layout → FileName → List ℕ → ℕ → ℕ
tail_offset s name bytes len = moved_by ((length bytes - len) - header_len s) (offset_of name)

-- how a file ends: a torn tail that was synced at least in part is damage
abbrev pub told_ending : Layout → Option (List ℕ) → FileName → List ℕ → FileEnding → FileEnding
told_ending s key name bytes End = End
told_ending s key name bytes (Torn len) =
    if is_synced_tail key (tail_offset s name bytes len) len bytes then Damaged (length bytes - len) else Torn len
told_ending s key name bytes (Damaged at) = Damaged at
told_ending s key name bytes (Refused fault) = Refused fault

-- and a checkpoint that isn't whole is refused
abbrev pub whole_ending : FileName → Bool → FileEnding → FileEnding
whole_ending (Checkpoint offset) false End = Refused file.NotWhole
whole_ending name whole ending = ending

-- an ending, or a refusal
abbrev pub ending_by : Result FileEnding FileFault → FileEnding
ending_by (Ok ending) = ending
ending_by (Err fault) = Refused fault

-- the report on a file whose records are taken into a replica, unless its last bytes can't be read
pub record Reports (s : Layout) (key : Option (List ℕ)) (name : FileName) (bytes : List ℕ) (h : ReplicaState)
    (r : FileReport) : Type 0 where
  pub new : Recovery
  pub read : Result FileEnding FileFault
  pub taken : Surveys s name bytes (record { replica = h; found = nothing_found }) new read
  pub records : r.records ≡ new.found.records
  pub cells : r.cells ≡ new.found.cells
  pub ending : (r.ending ≡ Refused file.ReadFailed) ⊎ (r.ending ≡ Refused file.Memory)
      ⊎ (r.ending ≡ whole_ending name (is_whole new.found) (told_ending s key name bytes (ending_by read)))

-- the same under a schema and some origin, of which the file has nothing
abbrev pub IsReportedUnder : Layout → Option (List ℕ) → FileName → List ℕ → FileReport → Type 0
IsReportedUnder s key name bytes r =
    ((origin : ℕ) × Reports s key name bytes (empty_state s origin) r)
    ⊎ (r.ending ≡ Refused file.Memory) ⊎ (r.ending ≡ Refused file.OriginUsed)

-- a file is read by itself: under the schema that its own header names, if that is whole, and if not, it isn't said to be
-- of another schema
abbrev pub IsReported : Option (List ℕ) → FileName → List ℕ → FileReport → Type 0
IsReported key name bytes r =
    ((s : Layout) × IsWholeUnder s bytes × IsReportedUnder s key name bytes r)
    ⊎ ((fault : FileFault) × (r.ending ≡ Refused fault) × (fault ≢ file.BadHeader SchemaDiffers))
