-- The cell with a number, in a walk that passes over some slots in one step.
use Rattle.std.proofs.Common.{◌≡◌, ℕ, zero, suc, ◌+◌, ◌-◌, ◌<◌, ◌≤◌, ℤ, pos, ◌+ℤ◌, List, [], ◌∷◌, ◌++◌, length, refl, sym, ap, ◌∙◌, arith}
use Rattle.std.specs.List.{slice_get}
use Rattle.std.specs.Option.{option_map}
use Rattle.std.proofs.lemmas.Int.{ints}
use Rattle.std.proofs.lemmas.List.{append_assoc, length-append}
use Rattle.rr_contrib.specs.declared.contribution.Contribution.{Contribution}
use Rattle.rr_archive.specs.declared.entry.Entry.{Entry}
use Rattle.rr_archive.specs.CellSlots.{CellSlot}
use Rattle.rr_archive.specs.Cells.{cell_of}
use Rattle.rr_archive.specs.LiveRows.{cells_from}
use Rattle.rr_archive.proofs.RowCells.{row_cells}
use Rattle.rr_archive.proofs.LiveWalks.{cells_left, left_step}
use Rattle.rr_packed.specs.BlockRows.{entries_in_all}
use Rattle.rr_packed.proofs.CountLemmas.{in_all_none, in_all_more, left_in_all}

in_first : {T : Type 0} (xs ys : List T) (i : ℕ) → i < length xs → slice_get (xs ++ ys) i ≡ slice_get xs i
in_first [] ys i h = absurd (omega arith)
in_first (x ∷ xs) ys zero h = refl
in_first (x ∷ xs) ys (suc i) h = in_first xs ys i (omega arith)

in_second : {T : Type 0} (xs ys : List T) (i : ℕ) → length xs ≤ i
    → slice_get (xs ++ ys) i ≡ slice_get ys (i - length xs)
in_second [] ys i h = ap (slice_get ys) (omega arith)
in_second (x ∷ xs) ys zero h = absurd (omega arith)
in_second (x ∷ xs) ys (suc i) h = in_second xs ys i (omega arith) ∙ ap (slice_get ys) (omega arith)

-- the cell is one of the next row's
cell_in_row : (s : ℤ) (es : List Entry) (rest : List (CellSlot × Contribution)) (i : ℕ) → i < length es
    → option_map cell_of (slice_get (row_cells s es ++ rest) i) ≡ option_map (λ e. (s, e)) (slice_get es i)
cell_in_row s [] rest i h = absurd (omega arith)
cell_in_row s (e ∷ es) rest zero h = refl
cell_in_row s (e ∷ es) rest (suc i) h = cell_in_row s es rest i (omega arith)

-- how many entries a row has
pub in_one : (f : ℤ → List Entry) (slot : ℤ) (d : ℕ) → 1 ≤ d → d ≤ 1
    → entries_in_all (λ j. f (slot +ℤ pos j)) d ≡ length (f slot)
in_one f slot d some most =
    let row = λ (j : ℕ). f (slot +ℤ pos j) in
    let one = ap (entries_in_all row) (is_one d some most) ∙ in_all_more row 0 in
    let none = in_all_none row in
    let here = ap (λ s. length (f s)) (itself slot) in
    omega arith
  where
    is_one : (d : ℕ) → 1 ≤ d → d ≤ 1 → d ≡ 0 + 1
    is_one d some most = omega arith

    itself : (slot : ℤ) → slot +ℤ pos 0 ≡ slot
    itself slot = omega (arith, ints)

module _ (f : ℤ → List Entry) (z : ℤ) (n : ℕ) where
  pub cell_of_next : (k i : ℕ) → k < n → i < length (f (z +ℤ pos k))
      → option_map cell_of (slice_get (cells_left f z n k) i)
      ≡ option_map (λ e. (z +ℤ pos k, e)) (slice_get (f (z +ℤ pos k)) i)
  cell_of_next k i h within = ap (λ l. option_map cell_of (slice_get l i)) (left_step f z n k h)
      ∙ cell_in_row (z +ℤ pos k) (f (z +ℤ pos k)) (cells_left f z n (k + 1)) i within

  -- the cells of the next slots, and those that are left then
  left_parts : (k d : ℕ) → k + d ≤ n → cells_left f z n k ≡ cells_from f (z +ℤ pos k) d ++ cells_left f z n (k + d)
  left_parts k zero le = ap (cells_left f z n) (omega arith)
  left_parts k (suc d) le =
      left_step f z n k (omega arith)
      ∙ ap (λ l. row_cells (z +ℤ pos k) (f (z +ℤ pos k)) ++ l) (left_parts (k + 1) d (omega arith)
      ∙ (λ i. cells_from f (one_on z k i) d ++ cells_left f z n (same k d i)))
      ∙ sym (append_assoc (row_cells (z +ℤ pos k) (f (z +ℤ pos k))) (cells_from f ((z +ℤ pos k) +ℤ pos 1) d)
      (cells_left f z n (k + suc d)))
    where
      one_on : (z : ℤ) (k : ℕ) → z +ℤ pos (k + 1) ≡ (z +ℤ pos k) +ℤ pos 1
      one_on z k = omega (arith, ints)

      same : (k d : ℕ) → (k + 1) + d ≡ k + suc d
      same k d = omega arith

  length_is : (k d : ℕ) → k + d ≤ n
      → length (cells_from f (z +ℤ pos k) d) ≡ entries_in_all (λ j. f ((z +ℤ pos k) +ℤ pos j)) d
  length_is k d le =
      let both = ap length (left_parts k d le)
      ∙ length-append (cells_from f (z +ℤ pos k) d) (cells_left f z n (k + d)) in
      let counted = left_in_all f z n k d le in
      omega arith

  -- the cell is one of the next slots'
  pub cell_among : (k d i : ℕ) → k + d ≤ n → i < entries_in_all (λ j. f ((z +ℤ pos k) +ℤ pos j)) d
      → slice_get (cells_left f z n k) i ≡ slice_get (cells_from f (z +ℤ pos k) d) i
  cell_among k d i le within =
      ap (λ l. slice_get l i) (left_parts k d le)
      ∙ in_first (cells_from f (z +ℤ pos k) d) (cells_left f z n (k + d)) i
      (let len = length_is k d le in omega arith)

  -- it is after them
  pub cell_beyond : (k d i : ℕ) → k + d ≤ n → entries_in_all (λ j. f ((z +ℤ pos k) +ℤ pos j)) d ≤ i
      → slice_get (cells_left f z n k) i
      ≡ slice_get (cells_left f z n (k + d)) (i - entries_in_all (λ j. f ((z +ℤ pos k) +ℤ pos j)) d)
  cell_beyond k d i le past =
      ap (λ l. slice_get l i) (left_parts k d le)
      ∙ in_second (cells_from f (z +ℤ pos k) d) (cells_left f z n (k + d)) i
      (let len = length_is k d le in omega arith)
      ∙ ap (λ c. slice_get (cells_left f z n (k + d)) (i - c)) (length_is k d le)
