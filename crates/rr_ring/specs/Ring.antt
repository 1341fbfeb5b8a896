-- What a ring stores of each slot.
use Rattle.std.specs.Prelude.{◌≡◌, ℕ, ℤ, ◌==◌, Bool, List, [], if◌then◌else◌}
use Rattle.std.specs.Ordering.{int_eq}
use Rattle.rr_archive.specs.declared.entry.Entry.{Entry}
use Rattle.rr_archive.specs.Row.{with_entry}
use Rattle.rr_ring.specs.declared.ring.Ring.{Ring}
use Rattle.rr_ring.specs.Positions.{position_of}
use Rattle.rr_ring.specs.Blocks.{items_by_position, has_room_by_position}

-- the entries that are stored for a slot, live or not
unfoldable pub ring_row : Ring → ℤ → List Entry
ring_row ring slot = items_by_position ring.blocks.items (position_of ring.rows slot) slot

-- whether setting the entry of an origin in a slot takes no memory
unfoldable pub has_room : Ring → ℤ → ℕ → Bool
has_room ring slot origin = has_room_by_position ring.blocks.items (position_of ring.rows slot) slot origin

-- an entry was set in a slot: nothing is stored now of other slots with its position, and all else is as before
abbrev pub IsRowChanged : ℕ → ℤ → Entry → (ℤ → List Entry) → (ℤ → List Entry) → Type 0
IsRowChanged rows slot e old new =
    (s : ℤ)
    → new s ≡ (if position_of rows s == position_of rows slot then
    (if int_eq slot s then with_entry (old slot) e else []) else old s)
