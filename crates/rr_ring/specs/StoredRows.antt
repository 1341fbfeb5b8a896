-- A stored row, and the entries that it has for a slot.
use Rattle.std.specs.Prelude.{ℕ, ℤ, Bool, false, not, ◌||◌, List, [], Option, Some, None, if◌then◌else◌}
use Rattle.std.specs.Ordering.{int_eq}
use Rattle.rr_archive.specs.declared.entry.Entry.{Entry}
use Rattle.rr_archive.specs.Entries.{items_of, has_room}
use Rattle.rr_archive.specs.LiveRows.{is_empty}
use Rattle.rr_ring.specs.declared.stored_row.StoredRow.{StoredRow}

-- the slot and the entries
abbrev pub slot_and_entries : StoredRow → ℤ × List Entry
slot_and_entries r = (r.slot, items_of r.entries)

-- the entries of a slot; none if the row is that of another, or not made yet
abbrev pub items_at : Option StoredRow → ℤ → List Entry
items_at None slot = []
items_at (Some r) slot = if int_eq r.slot slot then items_of r.entries else []

-- whether setting the entry of an origin in a slot takes no memory: the row of another slot is written over
abbrev pub has_room_at : Option StoredRow → ℤ → ℕ → Bool
has_room_at None slot origin = false
has_room_at (Some r) slot origin = not (int_eq r.slot slot) || has_room r.entries origin

-- no entry is stored
abbrev pub is_blank : StoredRow → Bool
is_blank r = is_empty (items_of r.entries)
