-- Cells of an archive one after the other, and how they follow one another among all cells.
use Rattle.std.specs.Prelude.{◌≡◌, ◌+◌, ℕ, ℤ, List, Some, slice_get}
use Rattle.std.specs.Option.{option_map}
use Rattle.rr_archive.specs.declared.entry.Entry.{Entry}
use Rattle.rr_archive.specs.CellSlots.{cell_slot}
use Rattle.rr_archive.specs.Cells.{ArchiveCells, cell_of}
use Rattle.rr_archive.specs.Cells as held
use Rattle.rr_cells.specs.Cells.{Cells, name_at}
use Rattle.rr_cells.specs.Listing.{cell_name, next_cell}

-- each of these cells but the last is followed by the next one of the archive
abbrev pub AreInTurn : ArchiveCells → List (ℤ × Entry) → Type 0
AreInTurn own run = (i : ℕ) (c d : ℤ × Entry) → slice_get run i ≡ Some c → slice_get run (i + 1) ≡ Some d
    → option_map cell_of (held.next_cell own (cell_slot c.0 c.1.origin)) ≡ Some d

-- the cell that comes next in an archive of a key comes next among all cells
abbrev pub IsNextOfAll : Cells → List ℕ → ℕ → ArchiveCells → Type 0
IsNextOfAll cells key number own = (slot : ℤ) (origin : ℕ) (c : ℤ × Entry)
    → option_map cell_of (held.next_cell own (cell_slot slot origin)) ≡ Some c
    → next_cell cells (cell_name key number slot origin)
    ≡ Some (name_at key number (cell_slot c.0 c.1.origin), c.1.contribution)
