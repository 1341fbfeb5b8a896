-- The rows of a block as packed bytes: each cell has the number of its row in place of its slot.
use Rattle.std.specs.Prelude.{◌≡◌, ℕ, zero, suc, ◌+◌, ◌==◌, ℤ, pos, ◌+ℤ◌, int_lt, Bool, true, false, not, ◌&&◌, List, [], ◌∷◌, ◌++◌, length, map, Result, Ok, Err, IsTrue, refl}
use Rattle.std.specs.Int.{bit_at}
use Rattle.std.specs.List.{filter}
use Rattle.std.specs.Ordering.{int_eq}
use Rattle.std.specs.Coded.{Coded, code_by, coded×, coded_ℕ}
use Rattle.rr_contrib.specs.declared.contribution.Contribution.{Contribution}
use Rattle.rr_archive.specs.Codes.{coded_contribution}
use Rattle.rr_archive.specs.declared.entry.Entry.{Entry}
use Rattle.rr_codec.specs.declared.fault.CodecFault.{CodecFault}
use Rattle.rr_codec.specs.Fields.{SlotEntry}
use Rattle.rr_codec.specs.Reading.{packed_at}

abbrev pub cells_read : Result (List SlotEntry × List ℕ) CodecFault → List SlotEntry
cells_read (Ok x) = x.0
cells_read (Err fault) = []

-- the cells that bytes hold
unfoldable pub cells_packed : List ℕ → List SlotEntry
cells_packed bytes = cells_read (packed_at bytes)

-- the entries of a slot among cells
abbrev pub entries_at : List SlotEntry → ℤ → List Entry
entries_at cells slot = map (λ c. c.1) (filter (λ c. int_eq c.0 slot) cells)

-- the entries of a row
unfoldable pub items_packed : List ℕ → ℕ → List Entry
items_packed bytes number = entries_at (cells_packed bytes) (pos number)

-- the cells of the first `n` rows, in order, the first row in this slot
unfoldable pub cells_of_rows : (ℕ → List Entry) → ℤ → ℕ → List SlotEntry
cells_of_rows row slot zero = []
cells_of_rows row slot (suc n) = map (λ e. (slot, e)) (row 0) ++ cells_of_rows (λ i. row (suc i)) (slot +ℤ pos 1) n

-- whether cells can be read, and nothing follows them
abbrev pub is_whole : Result (List SlotEntry × List ℕ) CodecFault → Bool
is_whole (Ok x) = length x.1 == 0
is_whole (Err fault) = false

-- bytes hold the cells of 64 rows, in order
pub record ArePackedRows (bytes : List ℕ) : Type 0 where
  pub whole : IsTrue (is_whole (packed_at bytes))
  pub ordered : cells_packed bytes ≡ cells_of_rows (items_packed bytes) (pos 0) 64

-- a row whose bit isn't set has no entry
abbrev pub AreMasked : ℕ → List ℕ → Type 0
AreMasked mask bytes = (number : ℕ) → bit_at mask number ≡ 0 → items_packed bytes number ≡ []

-- ---- the cells still left as they are read

abbrev pub left_of : Result (List SlotEntry) CodecFault → List SlotEntry
left_of (Ok cells) = cells
left_of (Err fault) = []

-- whether cells are of a block's rows, from one on, in order
unfoldable pub ascend_from : ℤ → List SlotEntry → Bool
ascend_from low [] = true
ascend_from low (c ∷ cs) = not (int_lt c.0 low) && (int_lt c.0 (pos 64) && ascend_from c.0 cs)

-- whether they can be read, and are of the rows of a block, in order
abbrev pub are_in_order : Result (List SlotEntry) CodecFault → Bool
are_in_order (Ok cells) = ascend_from (pos 0) cells
are_in_order (Err fault) = false

-- whether a row is one of `n` from one on
abbrev pub is_on : ℕ → ℕ → ℤ → Bool
is_on first n row = not (int_lt row (pos first)) && int_lt row (pos (first + n))

-- entries are a set
abbrev pub coded_entry : Coded Entry
coded_entry = code_by (ℕ × Contribution) (coded× coded_ℕ coded_contribution) (λ e. (e.origin, e.contribution))
    (λ p. record { origin = p.0; contribution = p.1 }) (λ _. refl)
