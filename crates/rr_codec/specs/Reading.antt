-- The reading of packed cells, as a function of the bytes: number by number, up to the first fault.
use Rattle.std.specs.Prelude.{◌≡◌, ℕ, zero, suc, ◌^◌, ◌==◌, Bool, true, ◌&&◌, ◌||◌, not, nat_lt, int_lt, List, [], ◌∷◌, length, Option, None, Some, Result, Ok}
use Rattle.std.specs.Ordering.{int_eq}
use Rattle.rr_schema.specs.Schema.{Layout}
use Rattle.rr_contrib.specs.Validity.{is_valid}
use Rattle.rr_text.specs.Results.{◌>>=◌, unless}
use Rattle.rr_codec.specs.declared.fault.CodecFault.{CodecFault}
use Rattle.rr_codec.specs.declared.fault.CodecFault.TheVariants.{BadContribution, OutOfOrder, TrailingBytes}
use Rattle.rr_codec.specs.Fields.{SlotEntry, cell_of, number_below}
use Rattle.rr_codec.specs.Numbers.{number_at}
use Rattle.rr_codec.specs.Recent.{KnownState, known_after, known_fields_at, nothing_known}

-- a cell and what is known after it, and what follows it
unfoldable pub cell_at : KnownState → List ℕ → Result ((SlotEntry × KnownState) × List ℕ) CodecFault
cell_at k bytes = do
  fields ← known_fields_at k bytes
  cell ← cell_of fields.0
  Ok ((cell, known_after k fields.0), fields.1)

-- n cells, and what follows them
unfoldable pub cells_at : KnownState → ℕ → List ℕ → Result (List SlotEntry × List ℕ) CodecFault
cells_at k zero bytes = Ok ([], bytes)
cells_at k (suc n) bytes = do
  first ← cell_at k bytes
  others ← cells_at first.0.1 n first.1
  Ok (first.0.0 ∷ others.0, others.1)

-- how many cells there are, and the nanoseconds of a row, and what follows them
unfoldable pub head_at : List ℕ → Result ((ℕ × ℕ) × List ℕ) CodecFault
head_at bytes = do
  count ← number_at bytes
  count_within ← number_below (2 ^ 32) count.0
  span ← number_at count.1
  Ok ((count_within, span.0), span.1)

-- cells, and what follows them
unfoldable pub packed_at : List ℕ → Result (List SlotEntry × List ℕ) CodecFault
packed_at bytes = head_at bytes >>= λ head. cells_at (nothing_known head.0.1) head.0.0 head.1

-- what follows cells, and the cells alone
abbrev pub rest_of : Result (List SlotEntry × List ℕ) CodecFault → Result (List ℕ) CodecFault
rest_of read = read >>= λ x. Ok x.1

abbrev pub cells_left : Result (List SlotEntry × List ℕ) CodecFault → Result (List SlotEntry) CodecFault
cells_left read = read >>= λ x. Ok x.0

-- nothing follows
abbrev pub alone : {X : Type 0} → X × List ℕ → Result X CodecFault
alone x = unless TrailingBytes (not (length x.1 == 0)) (Ok x.0)

-- all of the bytes, read as cells
abbrev pub cells_of : List ℕ → Result (List SlotEntry) CodecFault
cells_of bytes = packed_at bytes >>= alone

-- the bytes are a head, as many cells as it says, and nothing else
pub record IsWhole (bytes : List ℕ) (count span : ℕ) (cells : List ℕ) : Type 0 where
  pub head : head_at bytes ≡ Ok ((count, span), cells)
  pub cells_end : rest_of (cells_at (nothing_known span) count cells) ≡ Ok []

-- ---- what came from elsewhere

-- after a cell, or at the start
abbrev pub is_behind : Option SlotEntry → SlotEntry → Bool
is_behind None e = true
is_behind (Some before) e =
    int_lt before.0 e.0 || (int_eq before.0 e.0 && nat_lt before.1.origin e.1.origin)

-- a cell that is valid in its slot, and comes after the one before it
abbrev pub cell_checked : Layout → ℕ → Option SlotEntry → SlotEntry → Result SlotEntry CodecFault
cell_checked s archive before e =
    unless BadContribution (not (is_valid s archive e.0 e.1.contribution))
    (unless OutOfOrder (not (is_behind before e)) (Ok e))

-- a checked cell and what is known after it, and what follows it
unfoldable pub checked_at : Layout → ℕ → Option SlotEntry → KnownState → List ℕ
    → Result ((SlotEntry × KnownState) × List ℕ) CodecFault
checked_at s archive before k bytes = do
  first ← cell_at k bytes
  checked ← cell_checked s archive before first.0.0
  Ok ((checked, first.0.1), first.1)

-- n checked cells, and what follows them
unfoldable pub cells_checked : Layout → ℕ → Option SlotEntry → KnownState → ℕ → List ℕ
    → Result (List SlotEntry × List ℕ) CodecFault
cells_checked s archive before k zero bytes = Ok ([], bytes)
cells_checked s archive before k (suc n) bytes = do
  first ← checked_at s archive before k bytes
  others ← cells_checked s archive (Some first.0.0) first.0.1 n first.1
  Ok (first.0.0 ∷ others.0, others.1)

-- all of the bytes, read as cells that an archive of a schema may have
abbrev pub checked_cells_of : Layout → ℕ → List ℕ → Result (List SlotEntry) CodecFault
checked_cells_of s archive bytes =
    head_at bytes >>= (λ head. cells_checked s archive None (nothing_known head.0.1) head.0.0 head.1 >>= alone)

-- how many there are
abbrev pub checked_count : Layout → ℕ → List ℕ → Result ℕ CodecFault
checked_count s archive bytes = checked_cells_of s archive bytes >>= λ cells. Ok (length cells)
