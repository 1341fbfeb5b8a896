-- Which samples are kept.
use Rattle.std.specs.Prelude.{ℕ, ℤ, Bool, List, length, map}
use Rattle.std.specs.List.{list_any, range_with_len}
use Rattle.std.specs.FinMap.{keys}
use Rattle.rr_schema.specs.Schema.{Layout, archive_at, slot_of}
use Rattle.rr_join.specs.Horizon.{is_above}
use Rattle.rr_archive.specs.CellSlots.{newest_of}
use Rattle.rr_cells.specs.Cells.{Cells, archive_cells}

-- whether an archive would keep a sample of a key at a time: its slot is not past the horizon there
abbrev pub keeps_in : Layout → Cells → List ℕ → ℤ → ℕ → Bool
keeps_in s cells key time i = is_above (archive_at s i).rows (newest_of (keys (archive_cells cells key i)))
    (slot_of s i time)

-- whether some archive would
unfoldable pub keeps : Layout → Cells → List ℕ → ℤ → Bool
keeps s cells key time = list_any (λ kept. kept)
    (map (keeps_in s cells key time) (range_with_len 0 (length s.archives)))
