-- The cells of one archive of one key: a finite map from cell slots to contributions.
use Rattle.std.specs.Prelude.{◌≡◌, ℕ, zero, suc, ℤ, pos, ◌+ℤ◌, List, [], ◌++◌, map, Option, IsTrue}
use Rattle.std.specs.List.{filter, find}
use Rattle.std.specs.Ordering.{int_eq, is_lt}
use Rattle.std.specs.FinMap.{FinMap, empty, get, insert, entries, contains_key}
use Rattle.rr_join.specs.Maps.{trimmed, merged, joined}
use Rattle.rr_contrib.specs.declared.contribution.Contribution.{Contribution}
use Rattle.rr_contrib.specs.Contributions.{contribution_cmp, SlotSample, contribution_with}
use Rattle.rr_archive.specs.declared.entry.Entry.{Entry}
use Rattle.rr_archive.specs.declared.change.Change.{Change}
use Rattle.rr_archive.specs.Changes.{contribution_after}
use Rattle.rr_archive.specs.CellSlots.{CellSlot, cell_slot_cmp, is_live_at, IsInRange}

abbrev pub ArchiveCells : Type 0
ArchiveCells = FinMap cell_slot_cmp Contribution

-- each cell has the slot of a time, and an origin
abbrev pub AreInRange : ArchiveCells → Type 0
AreInRange m = (p : CellSlot) → IsTrue (contains_key m p) → IsInRange p

-- ---- without a horizon

-- with one more sample at a cell slot
abbrev pub with_put : ArchiveCells → CellSlot → SlotSample → ArchiveCells
with_put m p x = insert m p (contribution_with (get m p) x)

-- with the cell at a cell slot changed
abbrev pub with_change : ArchiveCells → CellSlot → Change → ArchiveCells
with_change m p change = insert m p (contribution_after (get m p) change)

-- the greater contribution at each cell slot of either map
abbrev pub merge_archive_cells : ArchiveCells → ArchiveCells → ArchiveCells
merge_archive_cells m n = merged contribution_cmp m n

-- with a cell merged in
abbrev pub with_cell : ArchiveCells → CellSlot → Contribution → ArchiveCells
with_cell m p c = merge_archive_cells m (insert empty p c)

-- ---- in an archive of a number of rows

-- no cell is past the horizon
abbrev pub IsTrimmed : ℕ → ArchiveCells → Type 0
IsTrimmed rows m = trimmed (is_live_at rows) m ≡ m

-- with one more sample at a cell slot, and then only the live cells
abbrev pub put_in_archive : ℕ → ArchiveCells → CellSlot → SlotSample → ArchiveCells
put_in_archive rows m p x = trimmed (is_live_at rows) (with_put m p x)

-- with the cell at a cell slot changed, and then only the live cells
abbrev pub changed_in_archive : ℕ → ArchiveCells → CellSlot → Change → ArchiveCells
changed_in_archive rows m p change = trimmed (is_live_at rows) (with_change m p change)

-- the two merged, and then only the live cells
abbrev pub join_archive_cells : ℕ → ArchiveCells → ArchiveCells → ArchiveCells
join_archive_cells rows m n = joined contribution_cmp (is_live_at rows) m n

-- with a cell joined in
abbrev pub join_cell : ℕ → ArchiveCells → CellSlot → Contribution → ArchiveCells
join_cell rows m p c = join_archive_cells rows m (insert empty p c)

-- ---- as they are read

-- the cell at a cell slot, as the entry of a row
abbrev pub entry_of : CellSlot × Contribution → Entry
entry_of e = record { origin = e.0.origin; contribution = e.1 }

-- the entries of a slot, ascending by origin
unfoldable pub row_of : ArchiveCells → ℤ → List Entry
row_of m slot = map entry_of (filter (λ e. int_eq e.0.slot slot) (entries m))

-- the entries of `n` slots from one on, each with its slot, in order
unfoldable pub cells_on : ArchiveCells → ℤ → ℕ → List (ℤ × Entry)
cells_on m slot zero = []
cells_on m slot (suc n) = map (λ e. (slot, e)) (row_of m slot) ++ cells_on m (slot +ℤ pos 1) n

-- a cell, as its slot and its entry
abbrev pub cell_of : CellSlot × Contribution → ℤ × Entry
cell_of e = (e.0.slot, entry_of e)

-- the first cell after a cell slot, if there is one
abbrev pub next_cell : ArchiveCells → CellSlot → Option (CellSlot × Contribution)
next_cell m p = find (λ e. is_lt (cell_slot_cmp p e.0)) (entries m)
