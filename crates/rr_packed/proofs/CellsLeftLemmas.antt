-- Cells that are left to read, as the first of them is taken.
use Rattle.std.proofs.Common.{◌≡◌, ℕ, pos, ◌≤ℤ◌, ◌<ℤ◌, ◌<◌, true, false, List, [], ◌∷◌, length, refl, sym, ap, ◌∙◌, subst, Option, Some, None, Result, Ok, Err, true≢false, arith}
use Rattle.std.proofs.lemmas.Int.{ints}
use Rattle.std.proofs.lemmas.Bool.{eqb-true}
use Rattle.std.specs.Ordering.{int_eq}
use Rattle.rr_archive.specs.declared.entry.Entry.{Entry}
use Rattle.rr_text.specs.Results.{◌>>=◌}
use Rattle.rr_codec.specs.declared.fault.CodecFault.{CodecFault}
use Rattle.rr_codec.specs.Decoding.{LeftState, TakesNext, with_cell}
use Rattle.rr_codec.specs.Fields.{SlotEntry}
use Rattle.rr_codec.specs.Reading.{cells_left, packed_at}
use Rattle.rr_packed.specs.PackedRows.{ArePackedRows, are_in_order, ascend_from, cells_packed, entries_at, items_packed, cells_read, is_whole, left_of}
use Rattle.rr_packed.proofs.RowCellLemmas.{ascend_lower, ascend_rows, first_in_order, at_other, none_below}
use Rattle.rr_packed.proofs.SparseLemmas.{empty_of}

abbrev pub Cells : Type 0
Cells = Result (List SlotEntry) CodecFault

-- a cell in front of others
abbrev with_first : SlotEntry → Cells → Cells
with_first c left = left >>= λ es. Ok (c ∷ es)

-- what is told by a cell that was taken
pub record IsTaken (c : SlotEntry) (old new : Cells) : Type 0 where
  pub low : pos 0 ≤ℤ c.0
  pub high : c.0 <ℤ pos 64
  pub takes : left_of old ≡ c ∷ left_of new
  pub in_order : are_in_order new ≡ true

first_taken : (c : SlotEntry) (new : Cells) → are_in_order (with_first c new) ≡ true → IsTaken c (with_first c new) new
first_taken c (Ok cs) is =
    let first = first_in_order (pos 0) c cs is in
    record {
      low = first.from;
      high = first.below;
      takes = refl;
      in_order = ascend_lower (pos 0) c.0 cs first.from first.others;
    }
first_taken c (Err fault) is = absurd (true≢false (sym is))

cell_taken : (c : SlotEntry) (old new : LeftState) → old ≡ with_cell c new → are_in_order old.cells ≡ true
    → IsTaken c old.cells new.cells
cell_taken c old new is in_order =
    subst (λ (s : LeftState). IsTaken c s.cells new.cells) (sym is)
    (first_taken c new.cells (subst (λ (s : LeftState). are_in_order s.cells ≡ true) is in_order))

pub some_taken : (c : SlotEntry) (o : Option SlotEntry) (old new : LeftState) → o ≡ Some c → TakesNext old new (Ok o)
    → are_in_order old.cells ≡ true → IsTaken c old.cells new.cells
some_taken c o old new is takes in_order =
    cell_taken c old new (subst (λ (p : Option SlotEntry). TakesNext old new (Ok p)) is takes) in_order

-- they stay in order
pub order_kept : (old new : LeftState) (r : Result (Option SlotEntry) CodecFault) → TakesNext old new r
    → are_in_order old.cells ≡ true → are_in_order new.cells ≡ true
order_kept old new (Ok (Some c)) is in_order = (cell_taken c old new is in_order).in_order
order_kept old new (Ok None) is in_order = subst (λ (s : LeftState). are_in_order s.cells ≡ true) (sym is.1) in_order
order_kept old new (Err fault) is in_order = subst (λ (s : LeftState). are_in_order s.cells ≡ true) (sym is.1) in_order

-- ---- at first

-- cells that can be read whole
whole_read : (read : Result (List SlotEntry × List ℕ) CodecFault) → is_whole read ≡ true
    → read ≡ Ok (cells_read read, [])
whole_read (Ok x) is = ap (λ (l : List ℕ). Ok (x.0, l)) (empty_of x.1 (eqb-true (length x.1) 0 is))
whole_read (Err fault) is = absurd (true≢false (sym is))

packed_read : (bytes : List ℕ) → ArePackedRows bytes → packed_at bytes ≡ Ok (cells_packed bytes, [])
unfolding cells_packed
packed_read bytes are = whole_read (packed_at bytes) are.whole

pub packed_left : (bytes : List ℕ) → ArePackedRows bytes → cells_left (packed_at bytes) ≡ Ok (cells_packed bytes)
packed_left bytes are = ap cells_left (packed_read bytes are)

pub packed_in_order : (bytes : List ℕ) → ArePackedRows bytes → ascend_from (pos 0) (cells_packed bytes) ≡ true
packed_in_order bytes are =
    ap (ascend_from (pos 0)) are.ordered
    ∙ ascend_rows (items_packed bytes) (pos 0) (pos 0) 64 (omega (arith, ints)) (omega (arith, ints))

-- ---- as a later row begins

-- cells in order whose first is of a later row have none of this one
pub none_of_earlier : (left : Cells) (row : ℕ) (e : Entry) (others : List SlotEntry) (number : ℕ)
    → are_in_order left ≡ true → left_of left ≡ (pos row, e) ∷ others → number < row
    → entries_at (left_of left) (pos number) ≡ []
none_of_earlier (Ok cs) row e others number in_order is later =
    let first = first_in_order (pos 0) (pos row, e) others (sym (ap (ascend_from (pos 0)) is) ∙ in_order) in
    ap (λ l. entries_at l (pos number)) is
    ∙ at_other (pos row, e) others (pos number) (apart row number later)
    ∙ none_below (pos row) others (pos number) first.others (omega (arith, ints))
  where
    apart : (row number : ℕ) → number < row → int_eq (pos row) (pos number) ≡ false
    apart row number h = grind (arith, ints)
none_of_earlier (Err fault) row e others number in_order is later = absurd (true≢false (sym in_order))
