-- Cells as records.
use Rattle.std.specs.Prelude.{◌≡◌, ◌≤◌, List, length, map}
use Rattle.rr_cells.specs.declared.cell.Cell.{Cell}
use Rattle.rr_cells.specs.Listing.{owned_cell}
use Rattle.rr_journal.specs.declared.raw.RawRecord.{RawRecord}
use Rattle.rr_journal.specs.declared.raw.TheConstants.{MAX_BODY_LEN}
use Rattle.rr_journal.specs.Body.{Meaning, raw_text}
use Rattle.rr_journal.specs.Text.{raw_of}
use Rattle.rr_recovery.specs.Joining.{cells_of_record}

-- a record of these cells, in order, which can be written
pub record IsRecordOf (cells : List Cell) (raw : RawRecord) : Type 0 where
  pub meaning : Meaning
  pub text : raw_of raw ≡ raw_text meaning
  pub has : cells_of_record meaning ≡ map owned_cell cells
  pub fits : length raw.body.items ≤ MAX_BODY_LEN
