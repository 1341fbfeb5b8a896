-- How the save of a round goes.
use Rattle.std.specs.Prelude.{◌≡◌, ◌⊎◌, ◌↔◌, ◌<◌, ℕ, Bool, true, false, List, [], ◌∷◌, Result, Ok, Err, OnOk, is_ok}
use Rattle.std.specs.FinMap.{entries, len}
use Rattle.std.specs.Io.KnownBytes.{Appends, Keeps}
use Rattle.rr_io.specs.Counted.{HasRisen}
use Rattle.rr_io.specs.Stream.{AppendsPrefix}
use Rattle.rr_desk.specs.KeeperState.{KeeperState, cells_of}
use Rattle.rr_page.specs.Version.{latest}
use Rattle.rr_snapshot.specs.declared.fault.SaveFault.{SaveFault}
use Rattle.rr_snapshot.specs.declared.fault.SaveFault.TheVariants as why
use Rattle.rr_snapshot.specs.declared.heading.TheConstants.{MAX_SNAPSHOT_CELLS}
use Rattle.rr_snapshot.specs.Snapshot.{snapshot_text}
use Rattle.rr_host.specs.Streams.{Output}
use Rattle.rr_node.specs.Shelf.{ShelfCall, opened, put_back, save_failed, unopened, unwanted}

-- the snapshot of a keeper's replica
abbrev pub snapshot_of : KeeperState → List ℕ
snapshot_of k = snapshot_text latest k.schema k.origin (entries (cells_of k))

-- what a shelf is told of a save: that it failed, if the writer did or there are too many cells
abbrev pub reported_of_save : Result (Unit {0}) SaveFault → List ShelfCall
reported_of_save (Ok x) = []
reported_of_save (Err why.Memory) = []
reported_of_save (Err why.WriteFailed) = save_failed why.WriteFailed ∷ []
reported_of_save (Err why.TooManyCells) = save_failed why.TooManyCells ∷ []

-- whether memory sufficed for a save
abbrev pub sufficed : Result (Unit {0}) SaveFault → Bool
sufficed (Ok x) = true
sufficed (Err why.Memory) = false
sufficed (Err why.WriteFailed) = true
sufficed (Err why.TooManyCells) = true

-- a writer was opened; all of the snapshot was written, or a prefix of it because the writer failed or memory ran out,
-- or nothing because there are too many cells; and the writer was handed back
pub record IsWritten (k : KeeperState) (saved : Result (Unit {0}) SaveFault) (shelved : List ShelfCall) : Type 0 where
  pub before : Output
  pub after : Output
  pub calls : shelved ≡ opened before ∷ put_back after (is_ok saved) ∷ reported_of_save saved
  pub whole : OnOk saved (Appends before.written after.written (snapshot_of k))
  pub prefix : AppendsPrefix before.written after.written (snapshot_of k)
  pub too_many : (saved ≡ Err why.TooManyCells) ↔ (MAX_SNAPSHOT_CELLS < len (cells_of k))
  pub nothing_written : saved ≡ Err why.TooManyCells → Keeps before.written after.written
  pub failed : saved ≡ Err why.WriteFailed → HasRisen before.failures after.failures

-- the save, as far as memory lasts: none is wanted; or its writer can't be opened, which is reported; or it is written
abbrev pub EndsSave : Bool → KeeperState → List ShelfCall → Type 0
EndsSave whole k shelved =
    ((whole ≡ true) × (shelved ≡ unwanted ∷ []))
    ⊎ ((whole ≡ true) × (shelved ≡ unopened ∷ save_failed why.WriteFailed ∷ []))
    ⊎ ((saved : Result (Unit {0}) SaveFault) × (whole ≡ sufficed saved) × IsWritten k saved shelved)
