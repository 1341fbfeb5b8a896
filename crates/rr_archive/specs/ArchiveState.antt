-- What an ordered map from slots to rows holds; a row without entries counts as none.
use Rattle.std.specs.Prelude.{◌≡◌, ℕ, ℤ, nat_lt, ◌≤◌, Bool, true, false, not, ◌||◌, List, [], ◌∷◌, ◌++◌, map, length, Option, Some, None, unwrap_or, vec_len, vec_capacity}
use Rattle.std.specs.Global.{Vec}
use Rattle.std.specs.Map.{lookup}
use Rattle.std.specs.BTreeMap.{is_at}
use Rattle.std.specs.Option.{option_map, option_and_then}
use Rattle.std.specs.Ordering.{int_cmp}
use Rattle.std.specs.FinMap.{keys, len}
use Rattle.rr_join.specs.Maps.{map_of}
use Rattle.rr_contrib.specs.declared.contribution.Contribution.{Contribution}
use Rattle.rr_archive.specs.declared.entry.Entry.{Entry}
use Rattle.rr_join.specs.Horizon.{is_above}
use Rattle.rr_archive.specs.CellSlots.{CellSlot, cell_slot, newest_of}
use Rattle.rr_archive.specs.Cells.{ArchiveCells, AreInRange, IsTrimmed}
use Rattle.rr_archive.specs.Row.{entry_at, ascends}

-- the row of a slot, if there is one
abbrev pub row_in : List (ℤ × Vec Entry) → ℤ → Option (Vec Entry)
row_in rows slot = lookup (is_at (int_cmp slot)) rows

-- the contribution at a cell slot, if there is one
abbrev pub cell_in : List (ℤ × Vec Entry) → CellSlot → Option Contribution
cell_in rows p = option_and_then (λ row. entry_at row.items p.origin) (row_in rows p.slot)

-- the cell slots of the entries
abbrev pub cell_slots_in : List (ℤ × Vec Entry) → List CellSlot
cell_slots_in [] = []
cell_slots_in (r ∷ rs) = map (λ e. cell_slot r.0 e.origin) r.1.items ++ cell_slots_in rs

-- the cells that the rows hold
unfoldable pub cells_in : List (ℤ × Vec Entry) → ArchiveCells
cells_in rows = map_of (cell_slots_in rows) (cell_in rows)

-- whether the row of the cell slot has room for one more entry
abbrev pub has_room_in : List (ℤ × Vec Entry) → CellSlot → Bool
has_room_in rows p = unwrap_or (option_map (λ row. nat_lt (vec_len row) (vec_capacity row)) (row_in rows p.slot)) false

-- whether the entries of a row, if there is one, ascend by origin
abbrev pub row_ascends : Option (Vec Entry) → Bool
row_ascends None = true
row_ascends (Some row) = ascends row.items

-- the entries of each row ascend by origin
abbrev pub RowsAscend : List (ℤ × Vec Entry) → Type 0
RowsAscend rows = (slot : ℤ) → row_ascends (row_in rows slot) ≡ true

-- whether a put or a join at a cell slot takes no memory: the cell slot is past the horizon, or its row has room
abbrev pub is_ready_in : ℕ → Option ℤ → List (ℤ × Vec Entry) → CellSlot → Bool
is_ready_in limit newest rows p = not (is_above limit newest p.slot) || has_room_in rows p

-- whether the first row is past the horizon of `limit` rows up to a newest slot
abbrev pub starts_dead : ℕ → ℤ → List (ℤ × Vec Entry) → Bool
starts_dead limit newest [] = false
starts_dead limit newest (r ∷ rs) = not (is_above limit (Some newest) r.0)

-- how many entries the first row has
abbrev pub first_len : List (ℤ × Vec Entry) → ℕ
first_len [] = 0
first_len (r ∷ rs) = length r.1.items

-- an archive of `limit` rows, at least one, has `count` cells and `newest` as their newest slot, and each cell is live
-- and in range
pub record IsArchiveState (limit count : ℕ) (newest : Option ℤ) (rows : List (ℤ × Vec Entry)) : Type 0 where
  pub rows_at_least : 1 ≤ limit
  pub counted : count ≡ len (cells_in rows)
  pub latest : newest ≡ newest_of (keys (cells_in rows))
  pub live : IsTrimmed limit (cells_in rows)
  pub in_range : AreInRange (cells_in rows)
