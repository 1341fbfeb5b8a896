-- What blocks store: the entries of a slot, by the number of a row in its block, and by position.
use Rattle.std.specs.Prelude.{◌≡◌, ℕ, ℤ, ◌/◌, ◌%◌, ◌==◌, Bool, false, List, [], Option, Some, None, length, slice_get, if◌then◌else◌}
use Rattle.std.specs.Ordering.{int_eq}
use Rattle.rr_archive.specs.declared.entry.Entry.{Entry}
use Rattle.rr_archive.specs.Row.{with_entry}
use Rattle.rr_ring.specs.declared.block.Block.{Block}
use Rattle.rr_ring.specs.declared.block.TheConstants.{BLOCK_ROWS}
use Rattle.rr_ring.specs.StoredRows.{items_at, has_room_at}

-- ---- in one block, by the number of a row

unfoldable pub block_items : Block → ℕ → ℤ → List Entry
block_items block number slot = items_at (slice_get block.rows.items number) slot

unfoldable pub has_room_in : Block → ℕ → ℤ → ℕ → Bool
has_room_in block number slot origin = has_room_at (slice_get block.rows.items number) slot origin

-- ---- in all blocks, by position

abbrev pub items_of_block : Option Block → ℕ → ℤ → List Entry
items_of_block None number slot = []
items_of_block (Some block) number slot = block_items block number slot

unfoldable pub items_by_position : List Block → ℕ → ℤ → List Entry
items_by_position blocks position slot =
    items_of_block (slice_get blocks (position / BLOCK_ROWS)) (position % BLOCK_ROWS) slot

abbrev pub block_has_room : Option Block → ℕ → ℤ → ℕ → Bool
block_has_room None number slot origin = false
block_has_room (Some block) number slot origin = has_room_in block number slot origin

unfoldable pub has_room_by_position : List Block → ℕ → ℤ → ℕ → Bool
has_room_by_position blocks position slot origin =
    block_has_room (slice_get blocks (position / BLOCK_ROWS)) (position % BLOCK_ROWS) slot origin

-- how many rows of a block are made
abbrev pub made_in : Option Block → ℕ
made_in None = 0
made_in (Some block) = length block.rows.items

-- ---- a change

-- an entry was set in a slot, at the number or position `at`: it now stores nothing there of other slots, and all else
-- is as before
abbrev pub IsChanged : ℕ → ℤ → Entry → (ℕ → ℤ → List Entry) → (ℕ → ℤ → List Entry) → Type 0
IsChanged at slot e old new =
    (i : ℕ) (s : ℤ)
    → new i s ≡ (if i == at then (if int_eq slot s then with_entry (old at slot) e else []) else old i s)
