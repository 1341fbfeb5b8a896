-- Cells in groups of one key and archive.
use Rattle.std.specs.Prelude.{◌≡◌, ◌≤◌, ◌*◌, ℕ, ℤ, List, length, map}
use Rattle.std.specs.List.{flat_map}
use Rattle.rr_archive.specs.declared.entry.Entry.{Entry}
use Rattle.rr_cells.specs.declared.cell.Cell.{Cell}
use Rattle.rr_cells.specs.Listing.{owned_cell}
use Rattle.rr_journal.specs.declared.group.Group.{Group}
use Rattle.rr_journal.specs.Body.{group_text, packed_cells}
use Rattle.rr_recovery.specs.Joining.{group_cells}

-- a cell is of the same key and archive as another
abbrev pub IsLike : Cell → Cell → Type 0
IsLike first c = (c.key ≡ first.key) × (c.archive ≡ first.archive)

-- the slot and the entry of a cell
abbrev pub slot_entry : Cell → ℤ × Entry
slot_entry c = (c.slot, record { origin = c.origin; contribution = c.contribution })

-- the bytes of groups in the body of a record
abbrev pub groups_text : List Group → List ℕ
groups_text groups = flat_map group_text (map packed_cells groups)

-- these groups have these cells, in order, in at most as many bytes for each as a group of one cell with the longest
-- key
pub record HaveCells (groups : List Group) (cells : List Cell) : Type 0 where
  pub has : flat_map group_cells (map packed_cells groups) ≡ map owned_cell cells
  pub size : length (groups_text groups) ≤ 1178 * length cells
