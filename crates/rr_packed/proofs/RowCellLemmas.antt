-- The cells of rows in order: those of one row, those from a row on, and how many there are.
use Rattle.std.proofs.Common.{◌≡◌, ℕ, zero, suc, ◌+◌, ◌-◌, ◌<◌, ◌≤◌, ℤ, pos, ◌+ℤ◌, ◌≤ℤ◌, ◌<ℤ◌, Bool, true, false, cond, not, ◌&&◌, List, [], ◌∷◌, ◌++◌, map, length, refl, sym, ap, ◌∙◌, arith, append_assoc}
use Rattle.std.specs.Prelude.{int_lt}
use Rattle.std.specs.List.{filter}
use Rattle.std.specs.Ordering.{int_eq}
use Rattle.std.proofs.lemmas.Bool.{and_parts, and_from}
use Rattle.std.proofs.lemmas.List.{append-nil, length-append}
use Rattle.std.proofs.lemmas.Int.{ints}
use Rattle.rr_archive.specs.declared.entry.Entry.{Entry}
use Rattle.rr_codec.specs.Fields.{SlotEntry}
use Rattle.rr_packed.specs.PackedRows.{ascend_from, cells_of_rows, entries_at}

-- ---- cells of rows that follow one another

-- the cells of a row
abbrev pub row_cells : ℤ → List Entry → List SlotEntry
row_cells slot row = map (λ e. (slot, e)) row

pub no_rows : (f : ℕ → List Entry) (s : ℤ) → cells_of_rows f s 0 ≡ []
unfolding cells_of_rows
no_rows f s = refl

pub first_row : (f : ℕ → List Entry) (s : ℤ) (n : ℕ)
    → cells_of_rows f s (suc n) ≡ row_cells s (f 0) ++ cells_of_rows (λ i. f (suc i)) (s +ℤ pos 1) n
unfolding cells_of_rows
first_row f s n = refl

-- those of the first rows, and those of the others
pub rows_split : (f : ℕ → List Entry) (s : ℤ) (n m : ℕ)
    → cells_of_rows f s (n + m) ≡ cells_of_rows f s n ++ cells_of_rows (λ i. f (n + i)) (s +ℤ pos n) m
rows_split f s zero m =
    (λ i. cells_of_rows (λ j. f (sym (none j) i)) (sym (same s) i) (none m i))
    ∙ ap (λ l. l ++ cells_of_rows (λ i. f (0 + i)) (s +ℤ pos 0) m) (sym (no_rows f s))
  where
    none : (k : ℕ) → 0 + k ≡ k
    none k = omega arith

    same : (z : ℤ) → z +ℤ pos 0 ≡ z
    same z = omega (arith, ints)
rows_split f s (suc n) m =
    ap (cells_of_rows f s) (first n m)
    ∙ first_row f s (n + m)
    ∙ ap (λ l. row_cells s (f 0) ++ l) (rows_split (λ i. f (suc i)) (s +ℤ pos 1) n m)
    ∙ sym (append_assoc (row_cells s (f 0)) (cells_of_rows (λ i. f (suc i)) (s +ℤ pos 1) n)
    (cells_of_rows (λ i. f (suc (n + i))) ((s +ℤ pos 1) +ℤ pos n) m))
    ∙ (λ i. sym (first_row f s n) i ++ cells_of_rows (λ j. f (sym (first n j) i)) (further s n i) m)
  where
    first : (n k : ℕ) → suc n + k ≡ suc (n + k)
    first n k = omega arith

    further : (z : ℤ) (n : ℕ) → (z +ℤ pos 1) +ℤ pos n ≡ z +ℤ pos (suc n)
    further z n = omega (arith, ints)

-- fewer rows have at most as many
pub rows_at_most : (f : ℕ → List Entry) (s : ℤ) (n m : ℕ) → n ≤ m
    → length (cells_of_rows f s n) ≤ length (cells_of_rows f s m)
rows_at_most f s n m le =
    let parts = ap (λ k. length (cells_of_rows f s k)) (all n m le)
    ∙ ap length (rows_split f s n (m - n))
    ∙ length-append (cells_of_rows f s n) (cells_of_rows (λ i. f (n + i)) (s +ℤ pos n) (m - n)) in
    omega arith
  where
    all : (n m : ℕ) → n ≤ m → m ≡ n + (m - n)
    all n m le = omega arith

-- with one row more
pub rows_more : (f : ℕ → List Entry) (s : ℤ) (n : ℕ)
    → cells_of_rows f s (n + 1) ≡ cells_of_rows f s n ++ row_cells (s +ℤ pos n) (f n)
rows_more f s n =
    rows_split f s n 1
    ∙ ap (λ l. cells_of_rows f s n ++ l)
    (first_row (λ i. f (n + i)) (s +ℤ pos n) 0
    ∙ ap (λ l. row_cells (s +ℤ pos n) (f (n + 0)) ++ l) (no_rows (λ i. f (n + suc i)) ((s +ℤ pos n) +ℤ pos 1))
    ∙ append-nil (row_cells (s +ℤ pos n) (f (n + 0)))
    ∙ ap (λ k. row_cells (s +ℤ pos n) (f k)) (none n))
  where
    none : (k : ℕ) → k + 0 ≡ k
    none k = omega arith

pub length_more : (f : ℕ → List Entry) (s : ℤ) (n : ℕ)
    → length (cells_of_rows f s (n + 1)) ≡ length (cells_of_rows f s n) + length (f n)
length_more f s n =
    ap length (rows_more f s n)
    ∙ length-append (cells_of_rows f s n) (row_cells (s +ℤ pos n) (f n))
    ∙ ap (λ k. length (cells_of_rows f s n) + k) (row_length (s +ℤ pos n) (f n))
  where
    row_length : (slot : ℤ) (row : List Entry) → length (row_cells slot row) ≡ length row
    row_length slot [] = refl
    row_length slot (e ∷ es) = ap suc (row_length slot es)

-- ---- the entries of a row among cells

abbrev is_at : ℤ → SlotEntry → Bool
is_at slot c = int_eq c.0 slot

pub at_first : (c : SlotEntry) (cs : List SlotEntry) (slot : ℤ) → int_eq c.0 slot ≡ true
    → entries_at (c ∷ cs) slot ≡ c.1 ∷ entries_at cs slot
at_first c cs slot is =
    ap (λ b. map (λ (d : SlotEntry). d.1) (cond b (c ∷ filter (is_at slot) cs) (filter (is_at slot) cs))) is

pub at_other : (c : SlotEntry) (cs : List SlotEntry) (slot : ℤ) → int_eq c.0 slot ≡ false
    → entries_at (c ∷ cs) slot ≡ entries_at cs slot
at_other c cs slot is =
    ap (λ b. map (λ (d : SlotEntry). d.1) (cond b (c ∷ filter (is_at slot) cs) (filter (is_at slot) cs))) is

at_own : (s : ℤ) (row : List Entry) (rest : List SlotEntry)
    → entries_at (row_cells s row ++ rest) s ≡ row ++ entries_at rest s
at_own s [] rest = refl
at_own s (e ∷ es) rest = at_first (s, e) (row_cells s es ++ rest) s (same s) ∙ ap (λ l. e ∷ l) (at_own s es rest)
  where
    same : (s : ℤ) → int_eq s s ≡ true
    same s = grind (arith, ints)

at_none : (s : ℤ) (row : List Entry) (rest : List SlotEntry) (slot : ℤ) → int_eq s slot ≡ false
    → entries_at (row_cells s row ++ rest) slot ≡ entries_at rest slot
at_none s [] rest slot apart = refl
at_none s (e ∷ es) rest slot apart =
    at_other (s, e) (row_cells s es ++ rest) slot apart ∙ at_none s es rest slot apart

-- a row before them
at_before : (f : ℕ → List Entry) (s : ℤ) (n : ℕ) (slot : ℤ) → slot <ℤ s → entries_at (cells_of_rows f s n) slot ≡ []
at_before f s zero slot h = ap (λ l. entries_at l slot) (no_rows f s)
at_before f s (suc n) slot h =
    ap (λ l. entries_at l slot) (first_row f s n)
    ∙ at_none s (f 0) (cells_of_rows (λ i. f (suc i)) (s +ℤ pos 1) n) slot (apart s slot h)
    ∙ at_before (λ i. f (suc i)) (s +ℤ pos 1) n slot (omega (arith, ints))
  where
    apart : (s slot : ℤ) → slot <ℤ s → int_eq s slot ≡ false
    apart s slot h = grind (arith, ints)

-- one behind them
pub at_behind : (f : ℕ → List Entry) (s : ℤ) (n : ℕ) (slot : ℤ) → (s +ℤ pos n) ≤ℤ slot
    → entries_at (cells_of_rows f s n) slot ≡ []
at_behind f s zero slot h = ap (λ l. entries_at l slot) (no_rows f s)
at_behind f s (suc n) slot h =
    ap (λ l. entries_at l slot) (first_row f s n)
    ∙ at_none s (f 0) (cells_of_rows (λ i. f (suc i)) (s +ℤ pos 1) n) slot (apart s slot n h)
    ∙ at_behind (λ i. f (suc i)) (s +ℤ pos 1) n slot (omega (arith, ints))
  where
    apart : (s slot : ℤ) (n : ℕ) → (s +ℤ pos (suc n)) ≤ℤ slot → int_eq s slot ≡ false
    apart s slot n h = grind (arith, ints)

-- one of them
pub at_row : (f : ℕ → List Entry) (s : ℤ) (n k : ℕ) → k < n → entries_at (cells_of_rows f s n) (s +ℤ pos k) ≡ f k
at_row f s zero k h = absurd (omega arith)
at_row f s (suc n) zero h =
    (λ i. entries_at (first_row f s n i) (same s i))
    ∙ at_own s (f 0) (cells_of_rows (λ i. f (suc i)) (s +ℤ pos 1) n)
    ∙ ap (λ l. f 0 ++ l) (at_before (λ i. f (suc i)) (s +ℤ pos 1) n s (omega (arith, ints)))
    ∙ append-nil (f 0)
  where
    same : (z : ℤ) → z +ℤ pos 0 ≡ z
    same z = omega (arith, ints)
at_row f s (suc n) (suc k) h =
    ap (λ l. entries_at l (s +ℤ pos (suc k))) (first_row f s n)
    ∙ at_none s (f 0) (cells_of_rows (λ i. f (suc i)) (s +ℤ pos 1) n) (s +ℤ pos (suc k)) (apart s k)
    ∙ ap (entries_at (cells_of_rows (λ i. f (suc i)) (s +ℤ pos 1) n)) (further s k)
    ∙ at_row (λ i. f (suc i)) (s +ℤ pos 1) n k (omega arith)
  where
    apart : (s : ℤ) (k : ℕ) → int_eq s (s +ℤ pos (suc k)) ≡ false
    apart s k = grind (arith, ints)

    further : (z : ℤ) (k : ℕ) → z +ℤ pos (suc k) ≡ (z +ℤ pos 1) +ℤ pos k
    further z k = omega (arith, ints)

-- ---- in order

ascend_row : (low s : ℤ) (row : List Entry) (rest : List SlotEntry) → low ≤ℤ s → s <ℤ pos 64
    → ((l : ℤ) → l ≤ℤ s → ascend_from l rest ≡ true) → ascend_from low (row_cells s row ++ rest) ≡ true
unfolding ascend_from
ascend_row low s [] rest from below others = others low from
ascend_row low s (e ∷ es) rest from below others =
    and_from (not (int_lt s low)) (int_lt s (pos 64) && ascend_from s (row_cells s es ++ rest)) (not_less low s from)
    (and_from (int_lt s (pos 64)) (ascend_from s (row_cells s es ++ rest)) (less s below)
    (ascend_row s s es rest (omega (arith, ints)) below others))
  where
    not_less : (low s : ℤ) → low ≤ℤ s → not (int_lt s low) ≡ true
    not_less low s h = grind (arith, ints)

    less : (s : ℤ) → s <ℤ pos 64 → int_lt s (pos 64) ≡ true
    less s h = grind (arith, ints)

pub ascend_rows : (f : ℕ → List Entry) (low s : ℤ) (n : ℕ) → low ≤ℤ s → (s +ℤ pos n) ≤ℤ pos 64
    → ascend_from low (cells_of_rows f s n) ≡ true
unfolding ascend_from
ascend_rows f low s zero from within = ap (ascend_from low) (no_rows f s)
ascend_rows f low s (suc n) from within =
    ap (ascend_from low) (first_row f s n)
    ∙ ascend_row low s (f 0) (cells_of_rows (λ i. f (suc i)) (s +ℤ pos 1) n) from (omega (arith, ints))
    (λ l h. ascend_rows (λ i. f (suc i)) l (s +ℤ pos 1) n (omega (arith, ints)) (omega (arith, ints)))

-- the first of cells in order, and the others
pub record FirstInOrder (low : ℤ) (c : SlotEntry) (cs : List SlotEntry) : Type 0 where
  pub from : low ≤ℤ c.0
  pub below : c.0 <ℤ pos 64
  pub others : ascend_from c.0 cs ≡ true

pub first_in_order : (low : ℤ) (c : SlotEntry) (cs : List SlotEntry) → ascend_from low (c ∷ cs) ≡ true
    → FirstInOrder low c cs
unfolding ascend_from
first_in_order low c cs is =
    let parts = and_parts (not (int_lt c.0 low)) (int_lt c.0 (pos 64) && ascend_from c.0 cs) is in
    let others = and_parts (int_lt c.0 (pos 64)) (ascend_from c.0 cs) parts.1 in
    record { from = not_less low c.0 parts.0; below = less c.0 others.0; others = others.1 }
  where
    not_less : (low s : ℤ) → not (int_lt s low) ≡ true → low ≤ℤ s
    not_less low s h = grind (arith, ints)

    less : (s : ℤ) → int_lt s (pos 64) ≡ true → s <ℤ pos 64
    less s h = grind (arith, ints)

pub ascend_lower : (low high : ℤ) (cs : List SlotEntry) → low ≤ℤ high → ascend_from high cs ≡ true
    → ascend_from low cs ≡ true
unfolding ascend_from
ascend_lower low high [] h is = refl
ascend_lower low high (c ∷ cs) h is =
    let parts = and_parts (not (int_lt c.0 high)) (int_lt c.0 (pos 64) && ascend_from c.0 cs) is in
    and_from (not (int_lt c.0 low)) (int_lt c.0 (pos 64) && ascend_from c.0 cs) (lower low high c.0 h parts.0) parts.1
  where
    lower : (low high s : ℤ) → low ≤ℤ high → not (int_lt s high) ≡ true → not (int_lt s low) ≡ true
    lower low high s h is = grind (arith, ints)

-- an earlier row has no entry among them
pub none_below : (low : ℤ) (cs : List SlotEntry) (slot : ℤ) → ascend_from low cs ≡ true → slot <ℤ low
    → entries_at cs slot ≡ []
none_below low [] slot is h = refl
none_below low (c ∷ cs) slot is h =
    let first = first_in_order low c cs is in
    let from = first.from in
    at_other c cs slot (apart c.0 slot (omega (arith, ints)))
    ∙ none_below c.0 cs slot first.others (omega (arith, ints))
  where
    apart : (s slot : ℤ) → slot <ℤ s → int_eq s slot ≡ false
    apart s slot h = grind (arith, ints)
