-- The cells that a ring holds: the entries of its live slots.
use Rattle.std.specs.Prelude.{ℕ, ℤ, ◌≤ℤ◌, Bool, not, ◌||◌, Option}
use Rattle.rr_join.specs.Horizon.{is_above}
use Rattle.rr_archive.specs.CellSlots.{CellSlot, IsSlot}
use Rattle.rr_archive.specs.Cells.{ArchiveCells}
use Rattle.rr_archive.specs.LiveRows.{cells_by, IsArchiveStateBy}
use Rattle.rr_ring.specs.declared.ring.Ring.{Ring}
use Rattle.rr_ring.specs.Ring.{ring_row, has_room}

abbrev pub cells_in : Option ℤ → Ring → ArchiveCells
cells_in newest ring = cells_by ring.rows newest (ring_row ring)

abbrev pub IsArchiveState : Option ℤ → ℕ → Ring → Type 0
IsArchiveState newest count ring = IsArchiveStateBy ring.rows newest count (ring_row ring)

-- whether a put or a join at a cell slot takes no memory: the cell slot is past the horizon, or there is room
abbrev pub is_ready_in : Option ℤ → Ring → CellSlot → Bool
is_ready_in newest ring p = not (is_above ring.rows newest p.slot) || has_room ring p.slot p.origin

-- two slots, the second not before the first
pub record AreInOrder (one next : ℤ) : Type 0 where
  pub first : IsSlot one
  pub second : IsSlot next
  pub later : one ≤ℤ next
