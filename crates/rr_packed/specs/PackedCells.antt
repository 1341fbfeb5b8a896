-- The cells that a packed archive holds: the entries of its live slots.
use Rattle.std.specs.Prelude.{◌≡◌, ℕ, ℤ, pos, ◌+ℤ◌, ◌-ℤ◌, Bool, false, not, ◌||◌, Option, IfSome}
use Rattle.std.specs.FinMap.{len}
use Rattle.rr_join.specs.Horizon.{is_above}
use Rattle.rr_archive.specs.CellSlots.{CellSlot}
use Rattle.rr_archive.specs.Cells.{ArchiveCells}
use Rattle.rr_archive.specs.LiveRows.{cells_by, IsArchiveStateBy}
use Rattle.rr_packed.specs.declared.blocks.Blocks.{Blocks}
use Rattle.rr_packed.specs.Blocks.{all_blocks, row_at, has_room_at, starts_before}
use Rattle.rr_packed.specs.Slots.{block_of}

abbrev pub cells_in : ℕ → Option ℤ → Blocks → ArchiveCells
cells_in rows newest blocks = cells_by rows newest (row_at blocks)

abbrev pub IsArchiveState : ℕ → Option ℤ → Blocks → Type 0
IsArchiveState rows newest blocks = IsArchiveStateBy rows newest (len (cells_in rows newest blocks)) (row_at blocks)

-- no block has only slots that are past the horizon
abbrev pub HasNonePast : ℕ → Option ℤ → Blocks → Type 0
HasNonePast rows newest blocks =
    IfSome newest (λ top. starts_before (block_of ((top -ℤ pos rows) +ℤ pos 1)) (all_blocks blocks) ≡ false)

-- whether a put or a join at a cell slot takes no memory: the cell slot is past the horizon, or there is room
abbrev pub is_ready_in : ℕ → Option ℤ → Blocks → CellSlot → Bool
is_ready_in rows newest blocks p = not (is_above rows newest p.slot) || has_room_at blocks p.slot p.origin
