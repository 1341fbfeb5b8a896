-- The laws of written checkpoints, each the contract of a function of `src/laws.rt`.
use Rattle.std.specs.Prelude.{◌≡◌, ◌^◌, ◌<◌, ℕ, Bool, List, [], ◌∷◌, ◌++◌, length, Some, Ok, All, Contains}
use Rattle.std.specs.FinMap.{empty}
use mathlib.Core.List.{IsPrefix}
use Rattle.rr_schema.specs.Schema.{Layout, IsLayout}
use Rattle.rr_cells.specs.declared.op.Op.{Op}
use Rattle.rr_cells.specs.CellBounds.{NamedCell}
use Rattle.rr_cells.specs.Cells.{Cells, IsTrimmed}
use Rattle.rr_cells.specs.Joins.{join_cells}
use Rattle.rr_cells.specs.Operations.{AllAccepted, outcome_of}
use Rattle.rr_cells.specs.ReplicaState.{ReplicaState}
use Rattle.rr_changes.specs.Checkpoints.{GoesForward, Read, batches_of, end_of}
use Rattle.rr_changes.specs.Updates.{AreWrites, GoesOn, Holds, Write, last_cells, written_cells}
use Rattle.rr_desk.specs.ReaderState.{ReaderState}
use Rattle.rr_directory.specs.declared.name.FileName.TheVariants.{Checkpoint}
use Rattle.rr_directory.specs.Reading.{Reached, after_file, file_records, file_stop, place_of}
use Rattle.rr_journal.specs.declared.cursor.Cursor.{Cursor}
use Rattle.rr_journal.specs.declared.step.Stop.TheVariants.{End}
use Rattle.rr_journal.specs.Body.{Meaning}
use Rattle.rr_journal.specs.Cursor.{IsCursor}
use Rattle.rr_journal.specs.Text.{Raw, AllFit}
use Rattle.rr_recovery.specs.Found.{one_record}
use Rattle.rr_recovery.specs.Laws.{cells_of_all, meanings_of}
use Rattle.rr_recovery.specs.Taking.{Recovery, taken_records, with_found}
use Rattle.rr_checkpoint.specs.Text.{checkpoint_text, end_text}
use Rattle.rr_checkpoint.specs.Walk.{AreSeen, IsWalk, cells_read}

-- ---- what is read

-- a desk whose first operations made what a replica holds, and which takes all that follow: a keeper's, from a moment
-- on
pub record IsDesk (h : ReplicaState) (from more : List Op) : Type 0 where
  pub goes_on : GoesOn h
  pub made : h.cells ≡ outcome_of h.schema from
  pub taken : AllAccepted h more

-- time goes on with each read of a desk, and in the end all that was read is held
abbrev pub ReadsGoForward : Type 0
ReadsGoForward =
    (limit : ℕ) (h : ReplicaState) (from more : List Op) (reads : List Read) → IsDesk h from more
    → AreSeen h.schema from (from ++ more) reads
    → GoesForward h.schema h.cells (batches_of limit reads) (end_of h.cells reads)
    × Holds h.schema (outcome_of h.schema (from ++ more)) (end_of h.cells reads)

-- a reader of a desk walked over its cells after these operations, or more, had been published
pub record WalksOver (h : ReplicaState) (from more : List Op) (first last : ReaderState) (reads : List Read) : Type 0 where
  pub desk : IsDesk h from more
  pub schema : first.schema ≡ h.schema
  pub before : IsPrefix from first.list
  pub after : IsPrefix last.list (from ++ more)
  pub walk : IsWalk first last reads

-- joining the cells of a walk and all that was written since, in any order, any number of times and with other cells,
-- gives all the cells of the last write, even if some were read later than that
abbrev pub CheckpointsBringAll : Type 0
CheckpointsBringAll =
    (h : ReplicaState) (from more : List Op) (first last : ReaderState) (reads : List Read) (x : Cells)
    (writes : List Write) (es : List NamedCell) → WalksOver h from more first last reads
    → AreWrites h.schema h.cells writes → IsTrimmed h.schema x
    → All (Contains es) (cells_read reads ++ written_cells writes)
    → Holds h.schema (join_cells h.schema x es) (last_cells h.cells writes)

-- and exactly these, with no other cells, if all operations are written in the end
abbrev pub CheckpointsMakeTheLast : Type 0
CheckpointsMakeTheLast =
    (h : ReplicaState) (from more : List Op) (first last : ReaderState) (reads : List Read) (writes : List Write)
    (es : List NamedCell) → WalksOver h from more first last reads → AreWrites h.schema h.cells writes
    → last_cells h.cells writes ≡ outcome_of h.schema (from ++ more)
    → All (Contains es) (cells_read reads ++ written_cells writes)
    → All (Contains (cells_read reads ++ written_cells writes)) es
    → join_cells h.schema empty es ≡ last_cells h.cells writes

-- ---- the file

-- what is read of a checkpoint: the place at which it begins, its records and its end, and nothing behind them
pub record ReadsCheckpoint (s : Layout) (begins : Cursor) (rs : List Raw) (cells : ℕ) (bytes : List ℕ) : Type 0 where
  pub place : place_of s (Checkpoint begins.offset) bytes ≡ Ok begins
  pub records : file_records s begins bytes ≡ rs ++ end_text cells ∷ []
  pub stop : file_stop s begins bytes ≡ End

abbrev pub CheckpointsAreRead : Type 0
CheckpointsAreRead =
    (s : Layout) (begins : Cursor) (rs : List Raw) (cells : ℕ) → IsLayout s → IsCursor begins → AllFit rs
    → ReadsCheckpoint s begins rs cells (checkpoint_text s begins rs cells)

-- a start that takes a checkpoint has joined the cells of its records, and goes on in the journal where the checkpoint
-- begins
abbrev pub CheckpointsAreTaken : Type 0
CheckpointsAreTaken =
    (s : Layout) (begins : Cursor) (rs : List Raw) (cells : ℕ) (meanings : List Meaning) (last : Bool) (x y : Reached)
    → IsLayout s → IsCursor begins → AllFit rs → cells < 2 ^ 64 → meanings_of s rs ≡ Ok meanings
    → x.recovery.replica.schema ≡ s
    → after_file s last x (Checkpoint begins.offset) (checkpoint_text s begins rs cells) ≡ Ok y
    → (y.place ≡ Some begins)
    × (y.recovery.replica.cells ≡ join_cells s x.recovery.replica.cells (cells_of_all meanings))

-- what a start has recovered, with the end of a checkpoint found
abbrev pub with_end : Recovery → ℕ → Recovery
with_end x cells = with_found x
    (record {
      origin = x.found.origin;
      cursors = x.found.cursors;
      end = Some cells;
      records = (one_record x.found).records;
      cells = x.found.cells;
    })

-- and a start takes it as the first file, if its records are taken and mean as many cells as its end states
abbrev pub CheckpointsAreWhole : Type 0
CheckpointsAreWhole =
    (s : Layout) (begins : Cursor) (rs : List Raw) (cells : ℕ) (meanings : List Meaning) (last : Bool) (x : Reached)
    (y : Recovery) → IsLayout s → IsCursor begins → AllFit rs → cells < 2 ^ 64 → meanings_of s rs ≡ Ok meanings
    → cells ≡ length (cells_of_all meanings) → x.recovery.replica.schema ≡ s → x.recovery.found.cells ≡ 0
    → taken_records x.recovery rs ≡ Ok y
    → after_file s last x (Checkpoint begins.offset) (checkpoint_text s begins rs cells)
    ≡ Ok (record { place = Some begins; recovery = with_end y cells; torn = 0 })
