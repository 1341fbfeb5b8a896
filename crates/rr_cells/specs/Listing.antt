-- Cells as they are read, in order, and how many there are.
use Rattle.std.specs.Prelude.{ℕ, ℤ, ◌+◌, ◌-◌, ◌^◌, nat_le, List, [], ◌∷◌, Option, if◌then◌else◌}
use Rattle.std.specs.List.{find}
use Rattle.std.specs.Ordering.{is_lt}
use Rattle.std.specs.FinMap.{len, entries}
use Rattle.rr_archive.specs.Cells.{ArchiveCells}
use Rattle.rr_cells.specs.CellNames.{CellName, cell_name_cmp}
use Rattle.rr_cells.specs.CellBounds.{NamedCell}
use Rattle.rr_cells.specs.Cells.{Cells}
use Rattle.rr_cells.specs.declared.cell.CellRef.{CellRef}
use Rattle.rr_cells.specs.declared.cell.Cell.{Cell}

-- a cell with a borrowed key, as a name and its contribution
abbrev pub seen_cell : CellRef → NamedCell
seen_cell c = (record { key = c.key.now; archive = c.archive; slot = c.slot; origin = c.origin }, c.contribution)

-- and one that owns its key
abbrev pub owned_cell : Cell → NamedCell
owned_cell c = (record { key = c.key; archive = c.archive; slot = c.slot; origin = c.origin }, c.contribution)

-- the name with these parts
abbrev pub cell_name : List ℕ → ℕ → ℤ → ℕ → CellName
cell_name key archive slot origin = record { key = key; archive = archive; slot = slot; origin = origin }

-- the first of these cells after a name, if there is one
abbrev pub first_after : CellName → List NamedCell → Option NamedCell
first_after n es = find (λ e. is_lt (cell_name_cmp n e.0)) es

-- the first cell after a name, if there is one
abbrev pub next_cell : Cells → CellName → Option NamedCell
next_cell m n = first_after n (entries m)

-- how many cells these archives hold
abbrev pub count_of : List ArchiveCells → ℕ
count_of [] = 0
count_of (r ∷ rs) = len r + count_of rs

-- a number if a usize can hold it, or else the greatest that it can hold
abbrev pub at_most_usize : ℕ → ℕ
at_most_usize n = if nat_le n (2 ^ 64 - 1) then n else 2 ^ 64 - 1
