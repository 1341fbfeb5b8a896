-- What blocks store: the entries of a row by its number in a block, and by its slot.
use Rattle.std.specs.Prelude.{◌≡◌, ℕ, ℤ, Bool, true, false, List, [], ◌∷◌, ◌++◌, Option, Some, None, slice_get, int_lt, if◌then◌else◌}
use Rattle.std.specs.List.{prefix_len}
use Rattle.std.specs.Map.{lookup, keys_of}
use Rattle.std.specs.Option.{option_to_list}
use Rattle.std.specs.BTreeMap.{is_at}
use Rattle.std.specs.Ordering.{int_cmp, int_eq}
use Rattle.rr_archive.specs.declared.entry.Entry.{Entry}
use Rattle.rr_archive.specs.Row.{with_entry}
use Rattle.rr_packed.specs.declared.blocks.Blocks.{Blocks}
use Rattle.rr_packed.specs.declared.held_block.HeldBlock.{HeldBlock}
use Rattle.rr_packed.specs.declared.held_block.HeldBlock.TheVariants.{Own, Finished, Packed}
use Rattle.rr_packed.specs.BlockRows.{items_in, has_room_in}
use Rattle.rr_packed.specs.PackedRows.{items_packed}
use Rattle.rr_packed.specs.Slots.{block_of, row_of}

-- ---- in one block, by the number of a row

abbrev pub stored_in : HeldBlock → ℕ → List Entry
stored_in (Own b) = items_in b.value
stored_in (Finished f) = items_in f.value.rows
stored_in (Packed p) = items_packed p.value.bytes.items

-- whether others may have it too
abbrev pub is_shared : HeldBlock → Bool
is_shared (Own b) = false
is_shared (Finished f) = true
is_shared (Packed p) = true

-- whether the entry of an origin takes no memory; a shared block has to be copied or unpacked first
abbrev pub has_room_held : HeldBlock → ℕ → ℕ → Bool
has_room_held (Own b) number origin = has_room_in b.value number origin
has_room_held (Finished f) number origin = false
has_room_held (Packed p) number origin = false

-- ---- in all blocks, by slot

-- all blocks, ascending: the older ones, and the newest if there is one
abbrev pub all_blocks : Blocks → List (ℤ × HeldBlock)
all_blocks b = b.older.items ++ option_to_list b.newest

-- what a block stores, and whether it is shared
abbrev pub held : HeldBlock → (ℕ → List Entry) × Bool
held b = (stored_in b, is_shared b)

-- a block as that, with its number
abbrev pub stored : ℤ × HeldBlock → ℤ × ((ℕ → List Entry) × Bool)
stored b = (b.0, held b.1)

-- the block of a number, if it is there
abbrev pub block_at : List (ℤ × HeldBlock) → ℤ → Option HeldBlock
block_at blocks number = lookup (is_at (int_cmp number)) blocks

-- how many blocks, from the first on, are before that of a number
abbrev pub count_before : ℤ → List (ℤ × HeldBlock) → ℕ
count_before number blocks = prefix_len (λ b. int_lt b.0 number) blocks

-- the block of a number is at a place
abbrev pub IsPlaceOf : ℤ → List (ℤ × HeldBlock) → ℕ → Type 0
IsPlaceOf number blocks at = slice_get (keys_of blocks) at ≡ Some number

-- it isn't there, and belongs at a place
abbrev pub IsGapFor : ℤ → List (ℤ × HeldBlock) → ℕ → Type 0
IsGapFor number blocks at = (block_at blocks number ≡ None) × (at ≡ count_before number blocks)

-- the block of a number was set, and the others stay
abbrev pub IsBlockSet : ℤ → HeldBlock → List (ℤ × HeldBlock) → List (ℤ × HeldBlock) → Type 0
IsBlockSet number b old new = (q : ℤ) → block_at new q ≡ (if is_at (int_cmp number) q then Some b else block_at old q)

abbrev pub items_of_block : Option HeldBlock → ℕ → List Entry
items_of_block None number = []
items_of_block (Some b) number = stored_in b number

unfoldable pub items_by_slot : List (ℤ × HeldBlock) → ℤ → List Entry
items_by_slot blocks slot = items_of_block (block_at blocks (block_of slot)) (row_of slot)

abbrev pub block_has_room : Option HeldBlock → ℕ → ℕ → Bool
block_has_room None number origin = false
block_has_room (Some b) number origin = has_room_held b number origin

-- whether the first block is before that of a number
abbrev pub starts_before : ℤ → List (ℤ × HeldBlock) → Bool
starts_before number [] = false
starts_before number (b ∷ bs) = int_lt b.0 number

-- the entries that are stored for a slot, live or not
abbrev pub row_at : Blocks → ℤ → List Entry
row_at b = items_by_slot (all_blocks b)

-- whether the entry of an origin in a slot takes no memory
unfoldable pub has_room_at : Blocks → ℤ → ℕ → Bool
has_room_at b slot origin = block_has_room (block_at (all_blocks b) (block_of slot)) (row_of slot) origin

-- an entry was set in a slot, and other slots store what they did
abbrev pub IsSlotSet : ℤ → Entry → (ℤ → List Entry) → (ℤ → List Entry) → Type 0
IsSlotSet slot e old new = (s : ℤ) → new s ≡ (if int_eq slot s then with_entry (old slot) e else old s)
