-- What opening a file gives.
use Rattle.std.specs.Prelude.{◌≡◌, List, ℕ, Option, Some, Result, Ok, Err}
use Rattle.rr_schema.specs.Schema.{Layout}
use Rattle.rr_journal.specs.declared.cursor.Cursor.{Cursor}
use Rattle.rr_directory.specs.declared.fault.FileFault.{FileFault}
use Rattle.rr_directory.specs.declared.name.FileName.{FileName}
use Rattle.rr_directory.specs.Reading.{IsFileFault, place_of, records_bytes}

-- the header of a file with these bytes was read, and its records are left
abbrev pub Opens : Layout → FileName → List ℕ → Option (List ℕ) → Result Cursor FileFault → Type 0
Opens s name bytes left (Ok begins) = (place_of s name bytes ≡ Ok begins) × (left ≡ Some (records_bytes s bytes))
Opens s name bytes left (Err fault) = IsFileFault (place_of s name bytes) fault
