-- How many entries some rows have, among cells of rows in order.
use Rattle.std.proofs.Common.{◌≡◌, ℕ, zero, suc, ◌+◌, ◌-◌, ◌≤◌, ℤ, pos, ◌+ℤ◌, ◌≤ℤ◌, Bool, true, false, cond, List, [], ◌∷◌, ◌++◌, length, refl, sym, ap, ◌∙◌, arith}
use Rattle.std.proofs.lemmas.List.{length-append, length-map}
use Rattle.std.proofs.lemmas.Int.{ints}
use Rattle.rr_archive.specs.declared.entry.Entry.{Entry}
use Rattle.rr_codec.specs.Fields.{SlotEntry}
use Rattle.rr_packed.specs.BlockRows.{entries_in_all}
use Rattle.rr_packed.specs.PackedRows.{cells_of_rows, is_on}
use Rattle.rr_packed.proofs.CountLemmas.{in_all_none, in_all_more}
use Rattle.rr_packed.proofs.RowCellLemmas.{row_cells, no_rows, first_row, rows_split, rows_more}

-- how many cells are of the `n` rows from one on
abbrev pub count_on : ℕ → ℕ → List SlotEntry → ℕ
count_on first n [] = 0
count_on first n (c ∷ cs) = cond (is_on first n c.0) (count_on first n cs + 1) (count_on first n cs)

-- ---- of all rows

length_row : (s : ℤ) (row : List Entry) (cs : List SlotEntry) → length (cs ++ row_cells s row)
    ≡ length cs + length row
length_row s row cs =
    length-append cs (row_cells s row) ∙ ap (λ n. length cs + n) (length-map row (λ (e : Entry). (s, e)))

pub length_rows : (f : ℕ → List Entry) (s : ℤ) (n : ℕ) → length (cells_of_rows f s n) ≡ entries_in_all f n
length_rows f s zero = ap length (no_rows f s) ∙ sym (in_all_none f)
length_rows f s (suc n) =
    ap (λ k. length (cells_of_rows f s k)) (up n)
    ∙ ap length (rows_more f s n)
    ∙ length_row (s +ℤ pos n) (f n) (cells_of_rows f s n)
    ∙ ap (λ k. k + length (f n)) (length_rows f s n)
    ∙ sym (in_all_more f n)
    ∙ ap (entries_in_all f) (sym (up n))
  where
    up : (n : ℕ) → suc n ≡ n + 1
    up n = omega arith

module _ (first n : ℕ) where
  pub count_one : (c : SlotEntry) (cs : List SlotEntry) → is_on first n c.0 ≡ true
      → count_on first n (c ∷ cs) ≡ count_on first n cs + 1
  count_one c cs on = ap (λ b. cond b (count_on first n cs + 1) (count_on first n cs)) on

  count_other : (c : SlotEntry) (cs : List SlotEntry) → is_on first n c.0 ≡ false
      → count_on first n (c ∷ cs) ≡ count_on first n cs
  count_other c cs off = ap (λ b. cond b (count_on first n cs + 1) (count_on first n cs)) off

  pub count_few : (cs : List SlotEntry) → count_on first n cs ≤ length cs
  count_few [] = omega arith
  count_few (c ∷ cs) = one_more (is_on first n c.0) (count_on first n cs) (length cs) (count_few cs)
    where
      one_more : (b : Bool) (k m : ℕ) → k ≤ m → cond b (k + 1) k ≤ suc m
      one_more true k m h = omega arith
      one_more false k m h = omega arith

  count_append : (cs ds : List SlotEntry) → count_on first n (cs ++ ds) ≡ count_on first n cs + count_on first n ds
  count_append [] ds = none (count_on first n ds)
    where
      none : (k : ℕ) → k ≡ 0 + k
      none k = omega arith
  count_append (c ∷ cs) ds =
      by_test (is_on first n c.0) (count_on first n (cs ++ ds)) (count_on first n cs) (count_on first n ds)
      (count_append cs ds)
    where
      by_test : (b : Bool) (all some others : ℕ) → all ≡ some + others
          → cond b (all + 1) all ≡ cond b (some + 1) some + others
      by_test true all some others e = omega arith
      by_test false all some others e = e

  -- a row of those that are counted
  row_on : (s : ℤ) (row : List Entry) (rest : List SlotEntry) → is_on first n s ≡ true
      → count_on first n (row_cells s row ++ rest) ≡ length row + count_on first n rest
  row_on s [] rest on = none (count_on first n rest)
    where
      none : (k : ℕ) → k ≡ 0 + k
      none k = omega arith
  row_on s (e ∷ es) rest on =
      count_one (s, e) (row_cells s es ++ rest) on
      ∙ ap (λ k. k + 1) (row_on s es rest on)
      ∙ more (length es) (count_on first n rest)
    where
      more : (a b : ℕ) → (a + b) + 1 ≡ suc a + b
      more a b = omega arith

  -- another
  row_off : (s : ℤ) (row : List Entry) (rest : List SlotEntry) → is_on first n s ≡ false
      → count_on first n (row_cells s row ++ rest) ≡ count_on first n rest
  row_off s [] rest off = refl
  row_off s (e ∷ es) rest off = count_other (s, e) (row_cells s es ++ rest) off ∙ row_off s es rest off

  rows_off : (f : ℕ → List Entry) (s : ℤ) (m : ℕ)
      → ((z : ℤ) → s ≤ℤ z → (z +ℤ pos 1) ≤ℤ (s +ℤ pos m) → is_on first n z ≡ false)
      → count_on first n (cells_of_rows f s m) ≡ 0
  rows_off f s zero off = ap (count_on first n) (no_rows f s)
  rows_off f s (suc m) off =
      ap (count_on first n) (first_row f s m)
      ∙ row_off s (f 0) (cells_of_rows (λ i. f (suc i)) (s +ℤ pos 1) m)
      (off s (omega (arith, ints)) (omega (arith, ints)))
      ∙ rows_off (λ i. f (suc i)) (s +ℤ pos 1) m (λ z low high. off z (omega (arith, ints)) (omega (arith, ints)))

  rows_on : (f : ℕ → List Entry) (s : ℤ) (m : ℕ)
      → ((z : ℤ) → s ≤ℤ z → (z +ℤ pos 1) ≤ℤ (s +ℤ pos m) → is_on first n z ≡ true)
      → count_on first n (cells_of_rows f s m) ≡ length (cells_of_rows f s m)
  rows_on f s zero on = ap (count_on first n) (no_rows f s) ∙ sym (ap length (no_rows f s))
  rows_on f s (suc m) on =
      ap (count_on first n) (first_row f s m)
      ∙ row_on s (f 0) (cells_of_rows (λ i. f (suc i)) (s +ℤ pos 1) m)
      (on s (omega (arith, ints)) (omega (arith, ints)))
      ∙ ap (λ k. length (f 0) + k) (rows_on (λ i. f (suc i)) (s +ℤ pos 1) m
      (λ z low high. on z (omega (arith, ints)) (omega (arith, ints))))
      ∙ sym (ap length (first_row f s m)
      ∙ length-append (row_cells s (f 0)) (cells_of_rows (λ i. f (suc i)) (s +ℤ pos 1) m)
      ∙ ap (λ k. k + length (cells_of_rows (λ i. f (suc i)) (s +ℤ pos 1) m))
      (length-map (f 0) (λ (e : Entry). (s, e))))

  -- those of a block
  pub count_rows : (f : ℕ → List Entry) (all : ℕ) → first + n ≤ all
      → count_on first n (cells_of_rows f (pos 0) all) ≡ entries_in_all (λ i. f (first + i)) n
  count_rows f all le =
      let rest = all - (first + n) in
      let s = pos 0 +ℤ pos first in
      let g = λ (i : ℕ). f (first + i) in
      let h = λ (i : ℕ). g (n + i) in
      let before = rows_off f (pos 0) first (λ z low high. earlier z first n low high) in
      let there = rows_on g s n (λ z low high. within z first n low high) in
      let behind = rows_off h (s +ℤ pos n) rest (λ z low high. later z first n low) in
      ap (λ m. count_on first n (cells_of_rows f (pos 0) m)) (parts first n all le)
      ∙ ap (count_on first n) (rows_split f (pos 0) first (n + rest))
      ∙ count_append (cells_of_rows f (pos 0) first) (cells_of_rows g s (n + rest))
      ∙ (λ i. before i + count_on first n (rows_split g s n rest i))
      ∙ ap (λ k. 0 + k) (count_append (cells_of_rows g s n) (cells_of_rows h (s +ℤ pos n) rest))
      ∙ (λ i. 0 + (there i + behind i))
      ∙ alone (length (cells_of_rows g s n))
      ∙ length_rows g s n
    where
      parts : (first n all : ℕ) → first + n ≤ all → all ≡ first + (n + (all - (first + n)))
      parts first n all le = omega arith

      alone : (k : ℕ) → 0 + (k + 0) ≡ k
      alone k = omega arith

      earlier : (z : ℤ) (first n : ℕ) → pos 0 ≤ℤ z → (z +ℤ pos 1) ≤ℤ (pos 0 +ℤ pos first) → is_on first n z ≡ false
      earlier z first n low high = grind (arith, ints)

      within : (z : ℤ) (first n : ℕ) → (pos 0 +ℤ pos first) ≤ℤ z
          → (z +ℤ pos 1) ≤ℤ ((pos 0 +ℤ pos first) +ℤ pos n) → is_on first n z ≡ true
      within z first n low high = grind (arith, ints)

      later : (z : ℤ) (first n : ℕ) → ((pos 0 +ℤ pos first) +ℤ pos n) ≤ℤ z → is_on first n z ≡ false
      later z first n low = grind (arith, ints)
