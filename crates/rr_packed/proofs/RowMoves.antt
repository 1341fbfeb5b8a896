-- The cells of the rows from one on, moved to a slot.
use Rattle.std.proofs.Common.{◌≡◌, ℕ, zero, suc, ◌+◌, ◌-◌, ◌<◌, ◌≤◌, ℤ, pos, ◌+ℤ◌, ◌-ℤ◌, ◌≤ℤ◌, Bool, true, false, cond, List, [], ◌∷◌, ◌++◌, length, refl, sym, ap, ◌∙◌, append_assoc, FitsSigned, to_z, of_z, w64, arith}
use Rattle.std.specs.Prelude.{int_lt}
use Rattle.std.proofs.lemmas.Int.{ints}
use Rattle.std.proofs.Math.Facts.{to_z-of_z}
use Rattle.rr_text.specs.declared.limits.TheConstants.{MAX_SECOND}
use Rattle.rr_archive.specs.declared.entry.Entry.{Entry}
use Rattle.rr_codec.specs.Fields.{SlotEntry}
use Rattle.rr_packed.specs.PackedRows.{cells_of_rows}
use Rattle.rr_packed.proofs.RowCellLemmas.{row_cells, no_rows, first_row, rows_split}

-- cells of the rows from one on, as those of the slots from one on
abbrev pub moved_to : ℕ → ℤ → List SlotEntry → List SlotEntry
moved_to first slot [] = []
moved_to first slot (c ∷ cs) =
    cond (int_lt c.0 (pos first)) (moved_to first slot cs) ((slot +ℤ (c.0 -ℤ pos first), c.1) ∷ moved_to first slot cs)

-- the slot of a moved row, as the code's number of 64 bits
pub slot_moved : (slot on : ℤ) (first row : ℕ) → FitsSigned w64 slot → slot ≤ℤ pos MAX_SECOND → first ≤ row → row < 64
    → on ≡ pos (row - first)
    → to_z w64 (of_z w64 (to_z w64 (of_z w64 slot) +ℤ to_z w64 (of_z w64 on)))
    ≡ to_z w64 (of_z w64 slot) +ℤ (pos row -ℤ pos first)
slot_moved slot on first row fits le from low is =
    let same = to_z-of_z {w = w64} {z = slot} fits in
    let small : FitsSigned w64 on = omega (arith, ints) in
    let on_is = to_z-of_z {w = w64} {z = on} small ∙ is in
    let within : FitsSigned w64 (slot +ℤ pos (row - first)) = omega (arith, ints) in
    let there : slot +ℤ pos (row - first) ≡ slot +ℤ (pos row -ℤ pos first) = omega (arith, ints) in
    (λ i. to_z w64 (of_z w64 (same i +ℤ on_is i)))
    ∙ to_z-of_z {w = w64} {z = slot +ℤ pos (row - first)} within
    ∙ there
    ∙ ap (λ z. z +ℤ (pos row -ℤ pos first)) (sym same)

module _ (first : ℕ) (slot : ℤ) where
  moved_one : (c : SlotEntry) (cs : List SlotEntry) → int_lt c.0 (pos first) ≡ false
      → moved_to first slot (c ∷ cs) ≡ (slot +ℤ (c.0 -ℤ pos first), c.1) ∷ moved_to first slot cs
  moved_one c cs from = ap (λ b. cond b (moved_to first slot cs)
      ((slot +ℤ (c.0 -ℤ pos first), c.1) ∷ moved_to first slot cs)) from

  moved_none : (c : SlotEntry) (cs : List SlotEntry) → int_lt c.0 (pos first) ≡ true
      → moved_to first slot (c ∷ cs) ≡ moved_to first slot cs
  moved_none c cs below = ap (λ b. cond b (moved_to first slot cs)
      ((slot +ℤ (c.0 -ℤ pos first), c.1) ∷ moved_to first slot cs)) below

  moved_append : (cs ds : List SlotEntry) → moved_to first slot (cs ++ ds)
      ≡ moved_to first slot cs ++ moved_to first slot ds
  moved_append [] ds = refl
  moved_append (c ∷ cs) ds = by_test (int_lt c.0 (pos first)) (moved_append cs ds)
    where
      by_test : (b : Bool) → moved_to first slot (cs ++ ds) ≡ moved_to first slot cs ++ moved_to first slot ds
          → cond b (moved_to first slot (cs ++ ds))
          ((slot +ℤ (c.0 -ℤ pos first), c.1) ∷ moved_to first slot (cs ++ ds))
          ≡ cond b (moved_to first slot cs) ((slot +ℤ (c.0 -ℤ pos first), c.1) ∷ moved_to first slot cs)
          ++ moved_to first slot ds
      by_test true rest = rest
      by_test false rest = ap (λ l. (slot +ℤ (c.0 -ℤ pos first), c.1) ∷ l) rest

  row_below : (s : ℤ) (row : List Entry) (rest : List SlotEntry) → int_lt s (pos first) ≡ true
      → moved_to first slot (row_cells s row ++ rest) ≡ moved_to first slot rest
  row_below s [] rest below = refl
  row_below s (e ∷ es) rest below = moved_none (s, e) (row_cells s es ++ rest) below ∙ row_below s es rest below

  row_from : (s : ℤ) (row : List Entry) (rest : List SlotEntry) → int_lt s (pos first) ≡ false
      → moved_to first slot (row_cells s row ++ rest)
      ≡ row_cells (slot +ℤ (s -ℤ pos first)) row ++ moved_to first slot rest
  row_from s [] rest from = refl
  row_from s (e ∷ es) rest from = moved_one (s, e) (row_cells s es ++ rest) from
      ∙ ap (λ l. (slot +ℤ (s -ℤ pos first), e) ∷ l) (row_from s es rest from)

  -- those of the rows before it
  rows_below : (f : ℕ → List Entry) (s : ℤ) (n : ℕ) → (s +ℤ pos n) ≤ℤ pos first
      → moved_to first slot (cells_of_rows f s n) ≡ []
  rows_below f s zero h = ap (moved_to first slot) (no_rows f s)
  rows_below f s (suc n) h =
      ap (moved_to first slot) (first_row f s n)
      ∙ row_below s (f 0) (cells_of_rows (λ i. f (suc i)) (s +ℤ pos 1) n) (below s n first h)
      ∙ rows_below (λ i. f (suc i)) (s +ℤ pos 1) n (omega (arith, ints))
    where
      below : (s : ℤ) (n first : ℕ) → (s +ℤ pos (suc n)) ≤ℤ pos first → int_lt s (pos first) ≡ true
      below s n first h = grind (arith, ints)

  -- those of the rows from it on
  rows_from : (f : ℕ → List Entry) (s : ℤ) (n : ℕ) → pos first ≤ℤ s
      → moved_to first slot (cells_of_rows f s n) ≡ cells_of_rows f (slot +ℤ (s -ℤ pos first)) n
  rows_from f s zero h = ap (moved_to first slot) (no_rows f s) ∙ sym (no_rows f (slot +ℤ (s -ℤ pos first)))
  rows_from f s (suc n) h =
      ap (moved_to first slot) (first_row f s n)
      ∙ row_from s (f 0) (cells_of_rows (λ i. f (suc i)) (s +ℤ pos 1) n) (from s first h)
      ∙ ap (λ l. row_cells (slot +ℤ (s -ℤ pos first)) (f 0) ++ l)
      (rows_from (λ i. f (suc i)) (s +ℤ pos 1) n (omega (arith, ints))
      ∙ ap (λ z. cells_of_rows (λ i. f (suc i)) z n) (further slot s first))
      ∙ sym (first_row f (slot +ℤ (s -ℤ pos first)) n)
    where
      from : (s : ℤ) (first : ℕ) → pos first ≤ℤ s → int_lt s (pos first) ≡ false
      from s first h = grind (arith, ints)

      further : (slot s : ℤ) (first : ℕ)
          → slot +ℤ ((s +ℤ pos 1) -ℤ pos first) ≡ (slot +ℤ (s -ℤ pos first)) +ℤ pos 1
      further slot s first = omega (arith, ints)

  pub all_moved : (f : ℕ → List Entry) (n : ℕ) → first ≤ n → moved_to first slot (cells_of_rows f (pos 0) n)
      ≡ cells_of_rows (λ i. f (first + i)) slot (n - first)
  all_moved f n le =
      ap (λ m. moved_to first slot (cells_of_rows f (pos 0) m)) (parts first n le)
      ∙ ap (moved_to first slot) (rows_split f (pos 0) first (n - first))
      ∙ moved_append (cells_of_rows f (pos 0) first)
      (cells_of_rows (λ i. f (first + i)) (pos 0 +ℤ pos first) (n - first))
      ∙ (λ i. rows_below f (pos 0) first (omega (arith, ints)) i
      ++ rows_from (λ j. f (first + j)) (pos 0 +ℤ pos first) (n - first) (omega (arith, ints)) i)
      ∙ ap (λ z. cells_of_rows (λ i. f (first + i)) z (n - first)) (same slot first)
    where
      parts : (first n : ℕ) → first ≤ n → n ≡ first + (n - first)
      parts first n le = omega arith

      same : (slot : ℤ) (first : ℕ) → slot +ℤ ((pos 0 +ℤ pos first) -ℤ pos first) ≡ slot
      same slot first = omega (arith, ints)

  -- one more cell was moved
  pub one_moved : (run more cs rest : List SlotEntry) (row : ℕ) (at : ℤ) (e : Entry) → first ≤ row
      → cs ≡ (pos row, e) ∷ rest → at ≡ slot +ℤ (pos row -ℤ pos first) → more ≡ run ++ (at, e) ∷ []
      → more ++ moved_to first slot rest ≡ run ++ moved_to first slot cs
  one_moved run more cs rest row at e from is there added =
      ap (λ l. l ++ moved_to first slot rest) added
      ∙ append_assoc run ((at, e) ∷ []) (moved_to first slot rest)
      ∙ ap (λ l. run ++ l) (ap (λ z. (z, e) ∷ moved_to first slot rest) there
      ∙ sym (moved_one (pos row, e) rest (not_below row first from))
      ∙ ap (moved_to first slot) (sym is))
    where
      not_below : (row first : ℕ) → first ≤ row → int_lt (pos row) (pos first) ≡ false
      not_below row first h = grind (arith, ints)

  -- a cell of a row from it on is left to be moved
  pub one_left : (cs rest : List SlotEntry) (row : ℕ) (e : Entry) → first ≤ row
      → cs ≡ (pos row, e) ∷ rest → 1 ≤ length (moved_to first slot cs)
  one_left cs rest row e from is =
      let more = ap (λ l. length (moved_to first slot l)) is
      ∙ ap length (moved_one (pos row, e) rest (not_below row first from)) in
      omega arith
    where
      not_below : (row first : ℕ) → first ≤ row → int_lt (pos row) (pos first) ≡ false
      not_below row first h = grind (arith, ints)
