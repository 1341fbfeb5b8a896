-- A walk over live slots: how many cells, the cell with a number, the first after a cell slot.
use Rattle.std.proofs.Common.{◌≡◌, ℕ, zero, suc, ◌+◌, ◌-◌, ◌<◌, ◌≤◌, ℤ, pos, ◌+ℤ◌, ◌-ℤ◌, ◌≤ℤ◌, true, false, cond, List, [], ◌∷◌, ◌++◌, length, refl, sym, ap, ◌∙◌, Option, Some, None, arith}
use Rattle.std.specs.Prelude.{int_lt}
use Rattle.std.specs.List.{find, filter}
use Rattle.std.specs.Option.{option_map, option_or}
use Rattle.std.specs.FinMap.{entries, len, retain_keys, len-entries}
use Rattle.std.proofs.lemmas.List.Folds.{find-append}
use Rattle.std.proofs.lemmas.Int.{ints}
use Rattle.rr_contrib.specs.declared.contribution.Contribution.{Contribution}
use Rattle.rr_archive.specs.declared.entry.Entry.{Entry}
use Rattle.rr_archive.specs.CellSlots.{CellSlot, cell_slot}
use Rattle.rr_archive.specs.Cells.{cell_of}
use Rattle.rr_archive.specs.Row.{ascends, is_after}
use Rattle.rr_join.proofs.Keys.{entries-retain}
use Rattle.rr_archive.proofs.CellSlotOrder.{cell_slot_cmp_total, cell_slot_cmp-IsAntisymmetric}
use Rattle.rr_archive.proofs.RowCells.{row_cells, is_past, none_in_row, first_past}
use Rattle.rr_archive.specs.LiveRows.{cells_from, live_cells, cells_by}
use Rattle.rr_archive.proofs.LiveRowsLemmas.{entries-cells_by}

-- the cells of `n` slots from one on that are left from the i-th of them on
pub cells_left : (ℤ → List Entry) → ℤ → ℕ → ℕ → List (CellSlot × Contribution)
cells_left f z n i = cells_from f (z +ℤ pos i) (n - i)

length-row : (slot : ℤ) (es : List Entry) (rest : List (CellSlot × Contribution))
    → length (row_cells slot es ++ rest) ≡ length es + length rest
length-row slot [] rest = omega arith
length-row slot (e ∷ es) rest = let more = length-row slot es rest in omega arith

module _ (f : ℤ → List Entry) (z : ℤ) (n : ℕ) where
  pub left_all : cells_left f z n 0 ≡ cells_from f z n
  unfolding cells_left
  left_all = λ i. cells_from f (same z i) (all n i)
    where
      same : (z : ℤ) → z +ℤ pos 0 ≡ z
      same z = omega (arith, ints)

      all : (n : ℕ) → n - 0 ≡ n
      all n = omega arith

  pub left_none : cells_left f z n n ≡ []
  unfolding cells_left
  left_none = ap (cells_from f (z +ℤ pos n)) (none n)
    where
      none : (n : ℕ) → n - n ≡ 0
      none n = omega arith

  pub left_step : (i : ℕ) → i < n → cells_left f z n i ≡ row_cells (z +ℤ pos i) (f (z +ℤ pos i))
      ++ cells_left f z n (i + 1)
  unfolding cells_left
  left_step i h =
      ap (cells_from f (z +ℤ pos i)) (fewer n i h)
      ∙ ap (λ y. row_cells (z +ℤ pos i) (f (z +ℤ pos i)) ++ cells_from f y (n - (i + 1))) (one_on z i)
    where
      fewer : (n i : ℕ) → i < n → n - i ≡ suc (n - (i + 1))
      fewer n i h = omega arith

      one_on : (z : ℤ) (i : ℕ) → (z +ℤ pos i) +ℤ pos 1 ≡ z +ℤ pos (i + 1)
      one_on z i = omega (arith, ints)

  pub length_step : (i : ℕ) → i < n → length (cells_left f z n i) ≡ length (f (z +ℤ pos i))
      + length (cells_left f z n (i + 1))
  length_step i h = ap length (left_step i h) ∙ length-row (z +ℤ pos i) (f (z +ℤ pos i)) (cells_left f z n (i + 1))

  skip : (i d : ℕ) → i + (d + 1) ≤ n → ((j : ℕ) → 1 ≤ j → j ≤ d → f ((z +ℤ pos i) +ℤ pos j) ≡ [])
      → cells_left f z n (i + 1) ≡ cells_left f z n (i + (d + 1))
  skip i zero le none = ap (cells_left f z n) (omega arith)
  skip i (suc d) le none =
      skip i d (omega arith) (λ j some h. none j some (omega arith))
      ∙ left_step (i + (d + 1)) (omega arith)
      ∙ ap (λ es. row_cells (z +ℤ pos (i + (d + 1))) es ++ cells_left f z n ((i + (d + 1)) + 1))
      (ap f (apart z i (d + 1)) ∙ none (d + 1) (omega arith) (omega arith))
      ∙ ap (cells_left f z n) (omega arith)
    where
      apart : (z : ℤ) (i j : ℕ) → z +ℤ pos (i + j) ≡ (z +ℤ pos i) +ℤ pos j
      apart z i j = omega (arith, ints)

  -- rows without an entry are passed over
  pub left_skip : (i d : ℕ) → 1 ≤ d → i + d ≤ n → ((j : ℕ) → 1 ≤ j → j < d → f ((z +ℤ pos i) +ℤ pos j) ≡ [])
      → cells_left f z n (i + 1) ≡ cells_left f z n (i + d)
  left_skip i d some le none = skip i (d - 1) (omega arith) (λ j one h. none j one (omega arith))
      ∙ ap (cells_left f z n) (omega arith)

  -- the slots before that of a cell slot have no cell after it
  pub find_skip : (p : CellSlot) (j : ℕ) → j ≤ n → (0 < j → (z +ℤ pos j) ≤ℤ p.slot)
      → find (is_past p) (cells_left f z n j) ≡ find (is_past p) (cells_left f z n 0)
  find_skip p zero h le = refl
  find_skip p (suc j) h le =
      let at = z +ℤ pos j in
      let rest = cells_left f z n (j + 1) in
      ap (λ k. find (is_past p) (cells_left f z n k)) (omega arith)
      ∙ ap (λ o. option_or o (find (is_past p) rest))
      (sym (none_in_row p.slot at p.origin (f at) (before z j p.slot (le (omega arith)))))
      ∙ sym (find-append (is_past p) (row_cells at (f at)) rest)
      ∙ ap (find (is_past p)) (sym (left_step j (omega arith)))
      ∙ find_skip p j (omega arith) (λ _. still z j p.slot (le (omega arith)))
    where
      before : (z : ℤ) (j : ℕ) (slot : ℤ) → (z +ℤ pos (suc j)) ≤ℤ slot → int_lt (z +ℤ pos j) slot ≡ true
      before z j slot h = grind (arith, ints)

      still : (z : ℤ) (j : ℕ) (slot : ℤ) → (z +ℤ pos (suc j)) ≤ℤ slot → (z +ℤ pos j) ≤ℤ slot
      still z j slot h = omega (arith, ints)

-- ---- the cells above a bound

-- how many cells are in slots above a bound
abbrev pub count_above : ℤ → List (CellSlot × Contribution) → ℕ
count_above bound cells = length (filter (λ e. int_lt bound e.0.slot) cells)

above_row : (bound slot : ℤ) (es : List Entry) (rest : List (CellSlot × Contribution)) → int_lt bound slot ≡ true
    → count_above bound (row_cells slot es ++ rest) ≡ length es + count_above bound rest
above_row bound slot [] rest h = omega arith
above_row bound slot (e ∷ es) rest h =
    ap (λ b. length (cond b ((cell_slot slot e.origin, e.contribution) ∷ filter (λ x. int_lt bound x.0.slot)
    (row_cells slot es ++ rest)) (filter (λ x. int_lt bound x.0.slot) (row_cells slot es ++ rest)))) h
    ∙ (let more = above_row bound slot es rest h in omega arith)

below_row : (bound slot : ℤ) (es : List Entry) (rest : List (CellSlot × Contribution)) → int_lt bound slot ≡ false
    → count_above bound (row_cells slot es ++ rest) ≡ count_above bound rest
below_row bound slot [] rest h = refl
below_row bound slot (e ∷ es) rest h =
    ap (λ b. length (cond b ((cell_slot slot e.origin, e.contribution) ∷ filter (λ x. int_lt bound x.0.slot)
    (row_cells slot es ++ rest)) (filter (λ x. int_lt bound x.0.slot) (row_cells slot es ++ rest)))) h
    ∙ below_row bound slot es rest h

above_all : (f : ℤ → List Entry) (bound z : ℤ) (n : ℕ) → int_lt bound z ≡ true
    → count_above bound (cells_from f z n) ≡ length (cells_from f z n)
above_all f bound z zero h = refl
above_all f bound z (suc n) h =
    above_row bound z (f z) (cells_from f (z +ℤ pos 1) n) h
    ∙ ap (λ k. length (f z) + k) (above_all f bound (z +ℤ pos 1) n (later bound z h))
    ∙ sym (length-row z (f z) (cells_from f (z +ℤ pos 1) n))
  where
    later : (bound z : ℤ) → int_lt bound z ≡ true → int_lt bound (z +ℤ pos 1) ≡ true
    later bound z h = grind (arith, ints)

-- the first slots are not above it
above_skip : (f : ℤ → List Entry) (bound z : ℤ) (n d : ℕ) → d ≤ n → (z +ℤ pos d) ≤ℤ (bound +ℤ pos 1)
    → count_above bound (cells_left f z n d) ≡ count_above bound (cells_left f z n 0)
above_skip f bound z n zero le h = refl
above_skip f bound z n (suc d) le h =
    ap (λ k. count_above bound (cells_left f z n k)) (omega arith)
    ∙ sym (below_row bound (z +ℤ pos d) (f (z +ℤ pos d)) (cells_left f z n (d + 1)) (before z d bound h))
    ∙ ap (count_above bound) (sym (left_step f z n d (omega arith)))
    ∙ above_skip f bound z n d (omega arith) (still z d bound h)
  where
    before : (z : ℤ) (d : ℕ) (bound : ℤ) → (z +ℤ pos (suc d)) ≤ℤ (bound +ℤ pos 1) → int_lt bound (z +ℤ pos d) ≡ false
    before z d bound h = grind (arith, ints)

    still : (z : ℤ) (d : ℕ) (bound : ℤ) → (z +ℤ pos (suc d)) ≤ℤ (bound +ℤ pos 1) → (z +ℤ pos d) ≤ℤ (bound +ℤ pos 1)
    still z d bound h = omega (arith, ints)

-- those that are left from the first slot above it on
pub above_left : (f : ℤ → List Entry) (bound z : ℤ) (n d : ℕ) → d ≤ n → (z +ℤ pos d) ≤ℤ (bound +ℤ pos 1)
    → (d < n → (z +ℤ pos d) ≡ (bound +ℤ pos 1)) → count_above bound (cells_left f z n 0) ≡ length (cells_left f z n d)
unfolding cells_left
above_left f bound z n d le before here = sym (above_skip f bound z n d le before) ∙ by_rest (n - d) refl
  where
    reaches : (y bound : ℤ) → y ≡ bound +ℤ pos 1 → int_lt bound y ≡ true
    reaches y bound is = grind (arith, ints)

    by_rest : (m : ℕ) → n - d ≡ m → count_above bound (cells_from f (z +ℤ pos d) m)
        ≡ length (cells_from f (z +ℤ pos d) m)
    by_rest zero is = refl
    by_rest (suc m) is = above_all f bound (z +ℤ pos d) (suc m) (reaches (z +ℤ pos d) bound (here (omega arith)))

-- ---- the live cells

module _ (limit : ℕ) (newest : Option ℤ) (f : ℤ → List Entry) (ascend : (slot : ℤ) → ascends (f slot) ≡ true) where
  pub entries_live : (top z : ℤ) → newest ≡ Some top → z ≡ (top -ℤ pos limit) +ℤ pos 1
      → cells_left f z limit 0 ≡ entries (cells_by limit newest f)
  entries_live top z is first =
      left_all f z limit
      ∙ ap (λ y. cells_from f y limit) first
      ∙ ap (λ o. live_cells limit o f) (sym is)
      ∙ sym (entries-cells_by f limit newest ascend)

  pub entries_none : newest ≡ None → entries (cells_by limit newest f) ≡ []
  entries_none is = entries-cells_by f limit newest ascend ∙ ap (λ o. live_cells limit o f) is

  -- how many are past the horizon once the newest slot is a later one
  pub dead_are : (top z newest_was : ℤ) (d dead : ℕ) → newest ≡ Some newest_was → z ≡ (newest_was -ℤ pos limit) +ℤ pos 1
      → d ≤ limit → (newest_was +ℤ pos d) ≤ℤ top → (d < limit → (newest_was +ℤ pos d) ≡ top)
      → dead + length (cells_left f z limit d) ≡ len (cells_by limit newest f)
      → dead + len (retain_keys (cells_by limit newest f) (λ p. int_lt (top -ℤ pos limit) p.slot))
      ≡ len (cells_by limit newest f)
  dead_are top z was d dead is first le before here counted =
      ap (λ k. dead + k) (
      len-entries (retain_keys (cells_by limit newest f) (λ p. int_lt (top -ℤ pos limit) p.slot))
      ∙ ap length (entries-retain cell_slot_cmp_total cell_slot_cmp-IsAntisymmetric (cells_by limit newest f)
      (λ p. int_lt (top -ℤ pos limit) p.slot))
      ∙ ap (count_above (top -ℤ pos limit)) (sym (entries_live was z is first))
      ∙ above_left f (top -ℤ pos limit) z limit d le (low was z top limit d first before)
      (λ more. low_is was z top limit d first (here more)))
      ∙ counted
    where
      low : (was z top : ℤ) (limit d : ℕ) → z ≡ (was -ℤ pos limit) +ℤ pos 1 → (was +ℤ pos d) ≤ℤ top
          → (z +ℤ pos d) ≤ℤ ((top -ℤ pos limit) +ℤ pos 1)
      low was z top limit d first h = omega (arith, ints)

      low_is : (was z top : ℤ) (limit d : ℕ) → z ≡ (was -ℤ pos limit) +ℤ pos 1 → (was +ℤ pos d) ≡ top
          → (z +ℤ pos d) ≡ ((top -ℤ pos limit) +ℤ pos 1)
      low_is was z top limit d first h = omega (arith, ints)

  pub dead_none : (top : ℤ) → newest ≡ None → len
      (retain_keys (cells_by limit newest f) (λ p. int_lt (top -ℤ pos limit) p.slot)) ≡ len (cells_by limit newest f)
  dead_none top is =
      len-entries (retain_keys (cells_by limit newest f) (λ p. int_lt (top -ℤ pos limit) p.slot))
      ∙ ap length (entries-retain cell_slot_cmp_total cell_slot_cmp-IsAntisymmetric (cells_by limit newest f)
      (λ p. int_lt (top -ℤ pos limit) p.slot) ∙ ap (filter (λ e. int_lt (top -ℤ pos limit) e.0.slot))
      (entries_none is) ∙ sym (entries_none is))
      ∙ sym (len-entries (cells_by limit newest f))

-- ---- the first cell after a cell slot, in the row of its slot or a later one and the rest

pub past_found : (slot at : ℤ) (o : ℕ) (es : List Entry) (rest : List (CellSlot × Contribution)) (e : Entry)
    → int_lt at slot ≡ false → find (is_after (int_lt slot at) o) es ≡ Some e
    → option_map cell_of (find (is_past (cell_slot slot o)) (row_cells at es ++ rest)) ≡ Some (at, e)
past_found slot at o es rest e from some = first_past slot at o es rest from
    ∙ ap (λ x. option_or (option_map (λ y. (at, y)) x) (option_map cell_of (find (is_past (cell_slot slot o)) rest)))
    some

pub past_none : (slot at : ℤ) (o : ℕ) (es : List Entry) (rest : List (CellSlot × Contribution)) → int_lt at slot ≡ false
    → find (is_after (int_lt slot at) o) es ≡ None
    → option_map cell_of (find (is_past (cell_slot slot o)) rest)
    ≡ option_map cell_of (find (is_past (cell_slot slot o)) (row_cells at es ++ rest))
past_none slot at o es rest from none = sym (first_past slot at o es rest from
    ∙ ap (λ x. option_or (option_map (λ y. (at, y)) x) (option_map cell_of (find (is_past (cell_slot slot o)) rest)))
    none)
