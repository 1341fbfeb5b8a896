-- What a block whose rows are held as they came stores: the entries of a row, by its number in it.
use Rattle.std.specs.Prelude.{◌≡◌, ℕ, zero, suc, ◌+◌, ◌==◌, Bool, ◌&&◌, List, length, Option, Some, None, is_none, Result, IsOk, IsTrue, OnOk, if◌then◌else◌}
use Rattle.std.specs.declared.alloc.AllocError.{AllocError}
use Rattle.rr_archive.specs.declared.entry.Entry.{Entry}
use Rattle.rr_archive.specs.declared.entries.Entries.{Entries}
use Rattle.rr_archive.specs.Entries.{items_of, has_room}
use Rattle.rr_packed.specs.declared.block.Block.{Block}
use Rattle.rr_packed.specs.Sparse.{item_in, place_at}
use Rattle.rr_packed.specs.Sparse.{has_room as has_spare}
use Rattle.rr_packed.specs.LoneSamples.{entries_read}

-- how many entries the first `n` of the rows have in all
unfoldable pub entries_in_all : (ℕ → List Entry) → ℕ → ℕ
entries_in_all row zero = 0
entries_in_all row (suc n) = entries_in_all row n + length (row n)

-- the entries that a row is held as; if there are none, those that its sample stands for
abbrev pub items_held : Option Entries → List Entry → List Entry
items_held None read = read
items_held (Some es) read = items_of es

unfoldable pub items_in : Block → ℕ → List Entry
items_in b number = items_held (item_in b.rows number) (entries_read b.source (item_in b.samples number))

abbrev pub room_held : Option Entries → Bool → ℕ → Bool
room_held None free origin = free
room_held (Some es) free origin = has_room es origin

-- whether the entry of an origin takes no memory: its row is held as entries, and has room; or it has no entry, and
-- there is room for one more row of either kind
unfoldable pub has_room_in : Block → ℕ → ℕ → Bool
has_room_in b number origin =
    room_held (item_in b.rows number) (is_none (place_at b.samples.mask number)
    && (has_spare b.samples && has_spare b.rows)) origin

-- a row is held neither as a lone sample nor as entries
pub record IsUnheld (b : Block) (number : ℕ) : Type 0 where
  pub samples : place_at b.samples.mask number ≡ None
  pub rows : place_at b.rows.mask number ≡ None

-- no row changes, and this one is no longer held as a lone sample, unless memory runs out; if the row had room for an
-- origin, memory doesn't run out, and the room stays
pub record Unpacks (number : ℕ) (old new : Block) (result : Result (Unit {0}) AllocError) : Type 0 where
  pub same : items_in new ≡ items_in old
  pub unpacked : OnOk result (place_at new.samples.mask number ≡ None)
  pub room : (origin : ℕ) → IsTrue (has_room_in old number origin) → IsOk result
  pub room_stays : (origin : ℕ) → IsTrue (has_room_in old number origin) → IsTrue (has_room_in new number origin)

-- what its samples have in common may have changed, but no row has
pub record SetsSource (old new : Block) : Type 0 where
  pub same : items_in new ≡ items_in old
  pub samples : new.samples ≡ old.samples
  pub rows : new.rows ≡ old.rows

-- the entries of a row were set, and the others stay
abbrev pub IsRowSet : ℕ → List Entry → (ℕ → List Entry) → (ℕ → List Entry) → Type 0
IsRowSet number es old new = (n : ℕ) → new n ≡ (if n == number then es else old n)
