-- The changes of series, listed archive by archive.
use Rattle.std.specs.Prelude.{◌≡◌, ℕ, ℤ, pos, ◌+ℤ◌, ◌<ℤ◌, int_le, int_lt, ◌&&◌, List, [], ◌∷◌, ◌++◌, map, length, if◌then◌else◌, Option, None, Some, Result, Ok, Err}
use Rattle.std.specs.FinMap.{entries}
use Rattle.std.specs.Int.{int_min}
use Rattle.std.specs.List.{filter, flat_map, range_with_len}
use Rattle.std.specs.declared.alloc.AllocError.{AllocError}
use Rattle.rr_schema.specs.Schema.{Layout}
use Rattle.rr_archive.specs.declared.entry.Entry.{Entry}
use Rattle.rr_archive.specs.Cells.{ArchiveCells, cell_of}
use Rattle.rr_cells.specs.CellBounds.{NamedCell}
use Rattle.rr_cells.specs.Cells.{Cells, archive_cells}
use Rattle.rr_cells.specs.Listing.{cell_name}
use Rattle.rr_changes.specs.declared.changed_series.ChangedSeries.{ChangedSeries}
use Rattle.rr_changes.specs.declared.time_range.ChangeTimes.{ChangeTimes}
use Rattle.rr_changes.specs.Changes.{is_slot_in_times}

-- ---- of one archive

-- its cells in the slots of ranges, in order
abbrev pub archive_changes : Layout → ℕ → ChangeTimes → ArchiveCells → List (ℤ × Entry)
archive_changes s archive times m = map cell_of (filter (λ e. is_slot_in_times s archive times e.0.slot) (entries m))

-- its cells in the slots from one on and before another, in order
abbrev pub cells_between : ArchiveCells → ℤ → ℤ → List (ℤ × Entry)
cells_between m first end = map cell_of (filter (λ e. int_le first e.0.slot && int_lt e.0.slot end) (entries m))

-- those of some cells before the first in a slot after this one
abbrev pub up_to_slot : ℤ → List (ℤ × Entry) → List (ℤ × Entry)
up_to_slot last [] = []
up_to_slot last (e ∷ es) = if int_lt last e.0 then [] else e ∷ up_to_slot last es

-- the cells in the slots from one on and before a later one were added, but for those in slots after a last one; or all
-- up to the last one
abbrev pub PushesRun : ArchiveCells → ℤ → ℤ → List (ℤ × Entry) → List (ℤ × Entry) → Result (Option ℤ) AllocError → Type 0
PushesRun m first last old new (Ok (Some next)) =
    (first <ℤ next) × (new ≡ old ++ cells_between m first (int_min next (last +ℤ pos 1)))
PushesRun m first last old new (Ok None) = new ≡ old ++ cells_between m first (last +ℤ pos 1)
PushesRun m first last old new (Err fault) = Unit {0}

-- ---- of series

-- a cell of an archive of a key
abbrev pub named_cell : List ℕ → ℕ → ℤ × Entry → NamedCell
named_cell key archive e = (cell_name key archive e.0 e.1.origin, e.1.contribution)

-- the changes of a series in one of its archives
abbrev pub changes_in : Layout → Cells → ChangedSeries → ℕ → List NamedCell
changes_in s m series archive =
    map (named_cell series.key archive) (archive_changes s archive series.times (archive_cells m series.key archive))

-- those of a series, archive by archive
abbrev pub changes_of : Layout → Cells → ChangedSeries → List NamedCell
changes_of s m series = flat_map (changes_in s m series) (range_with_len 0 (length s.archives))

-- and those of all these series
abbrev pub changes_of_all : Layout → Cells → List ChangedSeries → List NamedCell
changes_of_all s m series = flat_map (changes_of s m) series
