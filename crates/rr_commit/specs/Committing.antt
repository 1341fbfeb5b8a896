-- Records committed in batches, and the changes of a keeper committed so.
use Rattle.std.specs.Prelude.{◌≡◌, ◌⊎◌, ℕ, List, [], ◌∷◌, ◌++◌, map, Option, Result, Ok, Err}
use Rattle.std.specs.List.{flat_map}
use Rattle.rr_cells.specs.CellBounds.{NamedCell}
use Rattle.rr_cells.specs.Joins.{join_cells}
use Rattle.rr_journal.specs.declared.committing.CommitFault.{CommitFault}
use Rattle.rr_journal.specs.declared.committing.CommitFault.TheVariants.{NotWritten, NotSynced}
use Rattle.rr_journal.specs.declared.cursor.Cursor.{Cursor}
use Rattle.rr_journal.specs.Body.{Meaning, raw_text}
use Rattle.rr_journal.specs.Keeping.{Committed, Grows}
use Rattle.rr_journal.specs.Text.{Raw}
use Rattle.rr_journal.specs.Witness.{IsWitness}
use Rattle.rr_recovery.specs.Joining.{cells_of_record}
use Rattle.rr_changes.specs.declared.changed_series.ChangedSeries.{ChangedSeries}
use Rattle.rr_changes.specs.Listing.{changes_of}
use Rattle.rr_desk.specs.KeeperState.{KeeperState, cells_of, written_cells}
use Rattle.rr_desk.specs.Written.{CoverChanges}
use Rattle.rr_commit.specs.Packing.{AreTogether}

-- these records, with witnesses among them
abbrev pub AreWitnessed : List Raw → List Raw → Type 0
AreWitnessed [] [] = Unit {0}
AreWitnessed [] (w ∷ ws) = IsWitness w × AreWitnessed [] ws
AreWitnessed (r ∷ rs) [] = ⊥
AreWitnessed (r ∷ rs) (w ∷ ws) = (IsWitness w × AreWitnessed (r ∷ rs) ws) ⊎ ((w ≡ r) × AreWitnessed rs ws)

-- these records were committed, one after the other
pub record IsCommitted (rs : List Raw) (old new text : Option (List ℕ)) (before cursor : Cursor) : Type 0 where
  pub records : List Raw
  pub witnessed : AreWitnessed rs records
  pub committed : Committed old new text before cursor records

-- all of these were, or only a prefix of them; or, if the journal can't be synced or cut back, what was synced may have
-- more behind it
abbrev pub CommitsAll : List Raw → Option (List ℕ) → Option (List ℕ) → Option (List ℕ) → Cursor → Cursor
    → Result (Unit {0}) CommitFault → Type 0
CommitsAll rs old new text before cursor (Ok done) = IsCommitted rs old new text before cursor
CommitsAll rs old new text before cursor (Err NotWritten) =
    (first : List Raw) × (left : List Raw) × (first ++ left ≡ rs) × IsCommitted first old new text before cursor
CommitsAll rs old new text before cursor (Err NotSynced) = Grows old new

-- records of these cells, one after the other, with witnesses among them
pub record HaveCells (records : List Raw) (cells : List NamedCell) : Type 0 where
  pub meanings : List Meaning
  pub witnessed : AreWitnessed (map raw_text meanings) records
  pub has : flat_map cells_of_record meanings ≡ cells

-- some records were committed, or none
abbrev pub CommitsSome : Option (List ℕ) → Option (List ℕ) → Option (List ℕ) → Cursor → Cursor → Type 0
CommitsSome old new text before cursor = (records : List Raw) × Committed old new text before cursor records

-- a keeper's changes were committed: records of cells that lead from what was written to what the keeper holds, those of
-- a series in one record
pub record CommitsChanges (k : KeeperState) (old new text : Option (List ℕ)) (before cursor : Cursor) : Type 0 where
  pub records : List Raw
  pub cells : List NamedCell
  pub of : HaveCells records cells
  pub committed : Committed old new text before cursor records
  pub makes : join_cells k.schema (written_cells k) cells ≡ cells_of k
  pub series : List ChangedSeries
  pub changed : CoverChanges k series
  pub together : AreTogether of.meanings (map (changes_of k.schema (cells_of k)) series)
