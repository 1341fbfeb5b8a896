-- The cells of the live slots of an archive, from a function that gives the entries of each slot.
use Rattle.std.specs.Prelude.{◌≡◌, ℕ, ℤ, pos, ◌+ℤ◌, ◌-ℤ◌, zero, suc, int_lt, Bool, true, false, List, [], ◌∷◌, ◌++◌, map, Option, Some, None, IsTrue}
use Rattle.std.specs.FinMap.{keys, len, from_sorted}
use Rattle.rr_contrib.specs.declared.contribution.Contribution.{Contribution}
use Rattle.rr_archive.specs.declared.entry.Entry.{Entry}
use Rattle.rr_archive.specs.CellSlots.{CellSlot, cell_slot, newest_of, IsSlot}
use Rattle.rr_archive.specs.Cells.{ArchiveCells, AreInRange, IsTrimmed}
use Rattle.rr_archive.specs.Row.{ascends}

abbrev pub is_empty : List Entry → Bool
is_empty [] = true
is_empty (e ∷ es) = false

-- the cells of `n` slots from one on, in order
abbrev pub cells_from : (ℤ → List Entry) → ℤ → ℕ → List (CellSlot × Contribution)
cells_from row slot zero = []
cells_from row slot (suc n) =
    map (λ e. (cell_slot slot e.origin, e.contribution)) (row slot) ++ cells_from row (slot +ℤ pos 1) n

-- those of the last `rows` slots up to the newest
abbrev pub live_cells : ℕ → Option ℤ → (ℤ → List Entry) → List (CellSlot × Contribution)
live_cells rows None row = []
live_cells rows (Some newest) row = cells_from row ((newest -ℤ pos rows) +ℤ pos 1) rows

-- as a map
unfoldable pub cells_by : ℕ → Option ℤ → (ℤ → List Entry) → ArchiveCells
cells_by rows newest row = from_sorted (live_cells rows newest row)

-- whether a slot is after the newest
abbrev pub is_later : Option ℤ → ℤ → Bool
is_later None slot = true
is_later (Some newest) slot = int_lt newest slot

-- there are `count` cells, with `newest` as their newest slot; each is live and in range, the entries of each slot
-- ascend, and later slots have none
pub record IsArchiveStateBy (rows : ℕ) (newest : Option ℤ) (count : ℕ) (row : ℤ → List Entry) : Type 0 where
  pub counted : count ≡ len (cells_by rows newest row)
  pub latest : newest ≡ newest_of (keys (cells_by rows newest row))
  pub live : IsTrimmed rows (cells_by rows newest row)
  pub in_range : AreInRange (cells_by rows newest row)
  pub is_slot : (top : ℤ) → newest ≡ Some top → IsSlot top
  pub ascend : (slot : ℤ) → IsTrue (ascends (row slot))
  pub none_later : (slot : ℤ) → IsTrue (is_later newest slot) → IsTrue (is_empty (row slot))
