-- The cells of a replica: a finite map from the names of cells, by key, archive, slot and origin.
use Rattle.std.specs.Prelude.{◌≡◌, ℕ, ℤ, List, map, Some, Contains}
use Rattle.std.specs.List.{filter}
use Rattle.std.specs.FinMap.{FinMap, get, keys}
use Rattle.rr_schema.specs.Schema.{Layout}
use Rattle.rr_join.specs.Maps.{map_of, trimmed}
use Rattle.rr_contrib.specs.declared.contribution.Contribution.{Contribution}
use Rattle.rr_archive.specs.declared.entry.Entry.{Entry}
use Rattle.rr_archive.specs.CellSlots.{CellSlot, cell_slot}
use Rattle.rr_archive.specs.Cells as held
use Rattle.rr_cells.specs.CellNames.{CellName, cell_name_cmp, is_of, is_live}

-- the contribution at each name
abbrev pub Cells : Type 0
Cells = FinMap cell_name_cmp Contribution

-- no cell is past the horizon
abbrev pub IsTrimmed : Layout → Cells → Type 0
IsTrimmed s m = trimmed (is_live s) m ≡ m

-- ---- one archive of one key

-- the name of the cell at one of its cell slots
abbrev pub name_at : List ℕ → ℕ → CellSlot → CellName
name_at key archive p = record { key = key; archive = archive; slot = p.slot; origin = p.origin }

-- the cell slot of a cell in its archive
abbrev pub cell_slot_of : CellName → CellSlot
cell_slot_of n = cell_slot n.slot n.origin

-- the cells of an archive of a key, by their cell slots
unfoldable pub archive_cells : Cells → List ℕ → ℕ → held.ArchiveCells
archive_cells m key archive = map_of (map cell_slot_of (filter (is_of key archive) (keys m)))
    (λ p. get m (name_at key archive p))

-- each of its cells is of one of these origins
abbrev pub HasOriginsIn : Cells → List ℕ → ℕ → List ℕ → Type 0
HasOriginsIn m key archive origins = (n : CellName) (c : Contribution) → get m n ≡ Some c → n.key ≡ key
    → n.archive ≡ archive → Contains origins n.origin

-- the entries in one of its slots, ascending by origin
abbrev pub row_at : Cells → List ℕ → ℕ → ℤ → List Entry
row_at m key archive slot = held.row_of (archive_cells m key archive) slot
