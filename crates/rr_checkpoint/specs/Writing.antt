-- What a call that writes a checkpoint, or a part of one, did.
use Rattle.std.specs.Prelude.{◌≡◌, ◌+◌, ◌<◌, ◌≤◌, ℕ, List, length, MatchOption, Option, Result, Err}
use Rattle.std.specs.FinMap.{entries}
use Rattle.rr_cells.specs.CellNames.{CellName}
use Rattle.rr_cells.specs.CellBounds.{NamedCell}
use Rattle.rr_changes.specs.Changes.{last_name, next_of}
use Rattle.rr_changes.specs.Checkpoints.{Read}
use Rattle.rr_commit.specs.declared.record.TheConstants.{MAX_RECORD_CELLS}
use Rattle.rr_desk.specs.ReaderState.{ReaderState, cells_seen}
use Rattle.rr_io.specs.declared.counted.Counted.{Counted}
use Rattle.rr_io.specs.Stream.{HasFailed, KeepsFailures, WritesPrefix, WritesWhole}
use Rattle.rr_journal.specs.declared.cursor.Cursor.{Cursor}
use Rattle.rr_journal.specs.Text.{Raw, chain, records_text}
use Rattle.rr_checkpoint.specs.declared.fault.CheckpointFault.{CheckpointFault}
use Rattle.rr_checkpoint.specs.declared.fault.CheckpointFault.TheVariants.{WriteFailed}
use Rattle.rr_checkpoint.specs.declared.progress.Progress.{Progress}
use Rattle.rr_checkpoint.specs.Text.{HaveCells, checkpoint_text}
use Rattle.rr_checkpoint.specs.Walk.{IsWalk, cells_read}

-- whatever is answered, a prefix of the text of some records was written, and nothing else; and the writer is blamed
-- only if a call to it failed
pub record WritesSome {W X : Type 0} (contents : W → Option (List ℕ)) (old new : Counted W) (text : List Raw → List ℕ)
    (result : Result X CheckpointFault) : Type 0 where
  pub records : List Raw
  pub prefix : WritesPrefix contents old new (text records)
  pub failures_never_fall : KeepsFailures old new
  pub failed : result ≡ Err WriteFailed → HasFailed old new

-- records of these cells were written after a digest, which is now that of the last
pub record WritesRecords {W : Type 0} (contents : W → Option (List ℕ)) (old new : Counted W) (before digest : List ℕ)
    (cells : List NamedCell) : Type 0 where
  pub records : List Raw
  pub have : HaveCells records cells
  pub text : WritesWhole contents old new (records_text before records)
  pub chains : digest ≡ chain before records

-- the next cells after a name, among those that a reader has seen
abbrev pub next_seen : ReaderState → Option CellName → List NamedCell
next_seen r after = next_of MAX_RECORD_CELLS after (entries (cells_seen r))

-- these are a whole record's, and the last has this name; or fewer, so that no more follow
abbrev pub IsLastOf : Option CellName → List NamedCell → Option CellName → Type 0
IsLastOf after cells last = MatchOption last (length cells < MAX_RECORD_CELLS)
    (λ n. (MAX_RECORD_CELLS ≤ length cells) × (last_name after cells ≡ last))

-- cells were written, and counted
pub record WritesOn {W : Type 0} (contents : W → Option (List ℕ)) (old new : Counted W) (before progress : Progress)
    (cells : List NamedCell) : Type 0 where
  pub records : WritesRecords contents old new before.place.digest progress.place.digest cells
  pub count : progress.cells ≡ before.cells + length cells

-- all cells that a reader gave were written, and counted
pub record WritesWalk {W : Type 0} (contents : W → Option (List ℕ)) (old new : Counted W) (before progress : Progress)
    (first last : ReaderState) : Type 0 where
  pub reads : List Read
  pub walk : IsWalk first last reads
  pub written : WritesOn contents old new before progress (cells_read reads)

-- a checkpoint was written: the header of a file at a place, records of all cells that a reader gave, and the end with
-- their number
pub record WritesCheckpoint {W : Type 0} (contents : W → Option (List ℕ)) (old new : Counted W) (begins : Cursor)
    (first last : ReaderState) (cells : ℕ) : Type 0 where
  pub reads : List Read
  pub walk : IsWalk first last reads
  pub records : List Raw
  pub have : HaveCells records (cells_read reads)
  pub count : cells ≡ length (cells_read reads)
  pub text : WritesWhole contents old new (checkpoint_text first.schema begins records cells)
