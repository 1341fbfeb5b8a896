-- The text of a checkpoint.
use Rattle.std.specs.Prelude.{◌≡◌, ◌≤◌, ℕ, List, [], ◌∷◌, ◌++◌, length, map}
use Rattle.std.specs.List.{flat_map}
use Rattle.rr_schema.specs.Schema.{Layout}
use Rattle.rr_cells.specs.CellBounds.{NamedCell}
use Rattle.rr_journal.specs.declared.cursor.Cursor.{Cursor}
use Rattle.rr_journal.specs.declared.raw.RawRecord.{RawRecord}
use Rattle.rr_journal.specs.declared.raw.TheConstants.{MAX_BODY_LEN}
use Rattle.rr_journal.specs.Body.{Meaning, HasEnded, raw_text}
use Rattle.rr_journal.specs.Header.{header_text}
use Rattle.rr_journal.specs.Text.{Raw, AllFit, raw_of, records_text}
use Rattle.rr_recovery.specs.Joining.{cells_of_record}

-- records of these cells, one record after the other, which can be written
pub record HaveCells (rs : List Raw) (cells : List NamedCell) : Type 0 where
  pub meanings : List Meaning
  pub text : rs ≡ map raw_text meanings
  pub has : flat_map cells_of_record meanings ≡ cells
  pub fit : AllFit rs

-- the record that ends a checkpoint with this number of cells
abbrev pub end_text : ℕ → Raw
end_text cells = raw_text (HasEnded cells)

-- a record is this end, and can be written
pub record IsEndOf (cells : ℕ) (raw : RawRecord) : Type 0 where
  pub text : raw_of raw ≡ end_text cells
  pub fits : length raw.body.items ≤ MAX_BODY_LEN

-- a file of the journal that begins at a place: its header, and records
abbrev pub file_text : Layout → Cursor → List Raw → List ℕ
file_text s begins rs = header_text s begins ++ records_text begins.digest rs

-- a checkpoint is such a file, with its end behind the records
abbrev pub checkpoint_text : Layout → Cursor → List Raw → ℕ → List ℕ
checkpoint_text s begins rs cells = file_text s begins (rs ++ end_text cells ∷ [])
