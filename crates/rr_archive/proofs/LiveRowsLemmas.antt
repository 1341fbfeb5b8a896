-- What the map of the live cells holds, of a function that gives the entries of each slot.
use Rattle.std.proofs.Common.{◌≡◌, ℕ, zero, suc, ℤ, pos, ◌+ℤ◌, ◌-ℤ◌, Bool, true, false, not, cond, ◌&&◌, ◌||◌, T, List, [], ◌∷◌, ◌++◌, map, refl, sym, ap, ◌∙◌, Option, Some, None, Less, int_cmp, arith, true≢false, append-nil}
use Rattle.std.specs.Prelude.{int_lt}
use Rattle.std.specs.List.{filter}
use Rattle.std.specs.Option.{option_or}
use Rattle.std.specs.Ordering.{is_eq, int_eq}
use Rattle.std.specs.FinMap.Entries.{below_all}
use Rattle.std.specs.FinMap.{get, entries, find, is_sorted, entries-from_sorted, get-from_sorted}
use Rattle.std.proofs.lemmas.List.Elements.{filter-append}
use Rattle.std.proofs.lemmas.Int.{ints}
use Rattle.rr_contrib.specs.declared.contribution.Contribution.{Contribution}
use Rattle.rr_archive.specs.declared.entry.Entry.{Entry}
use Rattle.rr_archive.specs.Cells.{entry_of, row_of}
use Rattle.rr_archive.specs.Row.{entry_at, ascends}
use Rattle.rr_join.specs.Horizon.{is_above}
use Rattle.rr_archive.specs.CellSlots.{CellSlot, cell_slot, cell_slot_cmp}
use Rattle.rr_archive.proofs.RowCells.{row_cells, below_later, below_append, sorted_first, find_row, at_slot, kept_row, dropped_row}
use Rattle.rr_archive.specs.LiveRows.{is_empty, cells_from, live_cells, cells_by, is_later}

-- whether a slot is one of `n` from a slot on
within : ℤ → ℕ → ℤ → Bool
within z zero slot = false
within z (suc n) slot = int_eq z slot || within (z +ℤ pos 1) n slot

within-is : (z : ℤ) (n : ℕ) (slot : ℤ) → within z n slot ≡ (not (int_lt slot z) && int_lt slot (z +ℤ pos n))
unfolding within
within-is z zero slot = none z slot
  where
    none : (z slot : ℤ) → false ≡ (not (int_lt slot z) && int_lt slot (z +ℤ pos 0))
    none z slot = grind (arith, ints)
within-is z (suc n) slot = ap (λ b. int_eq z slot || b) (within-is (z +ℤ pos 1) n slot) ∙ one_more z n slot
  where
    one_more : (z : ℤ) (n : ℕ) (slot : ℤ) → (int_eq z slot
        || (not (int_lt slot (z +ℤ pos 1)) && int_lt slot ((z +ℤ pos 1) +ℤ pos n)))
        ≡ (not (int_lt slot z) && int_lt slot (z +ℤ pos (suc n)))
    one_more z n slot = grind (arith, ints)

not_within : (z : ℤ) (n : ℕ) (slot : ℤ) → int_eq z slot ≡ true → within (z +ℤ pos 1) n slot ≡ false
not_within z n slot h = within-is (z +ℤ pos 1) n slot ∙ before z n slot h
  where
    before : (z : ℤ) (n : ℕ) (slot : ℤ) → int_eq z slot ≡ true
        → (not (int_lt slot (z +ℤ pos 1)) && int_lt slot ((z +ℤ pos 1) +ℤ pos n)) ≡ false
    before z n slot h = grind (arith, ints)

-- the rows up to the newest are those that are live and not later
within_live : (limit : ℕ) (top slot : ℤ) → within ((top -ℤ pos limit) +ℤ pos 1) limit slot
    ≡ (int_lt (top -ℤ pos limit) slot && not (int_lt top slot))
within_live limit top slot = within-is ((top -ℤ pos limit) +ℤ pos 1) limit slot ∙ same limit top slot
  where
    same : (limit : ℕ) (top slot : ℤ) → (not (int_lt slot ((top -ℤ pos limit) +ℤ pos 1))
        && int_lt slot (((top -ℤ pos limit) +ℤ pos 1) +ℤ pos limit))
        ≡ (int_lt (top -ℤ pos limit) slot && not (int_lt top slot))
    same limit top slot = grind (arith, ints)

same_slot : (a b : ℤ) → int_eq a b ≡ true → a ≡ b
same_slot a b h = grind (arith, ints)

pub empty_is : (es : List Entry) → is_empty es ≡ true → es ≡ []
empty_is [] h = refl
empty_is (e ∷ es) h = absurd (true≢false (sym h))

module _ (f : ℤ → List Entry) where
  -- ---- in order

  later_cells : (s z : ℤ) (n : ℕ) → int_lt s z ≡ true → (p : ℕ)
      → T (below_all cell_slot_cmp (cell_slot s p) (cells_from f z n))
  later_cells s z zero h p = tt
  later_cells s z (suc n) h p = below_append (cell_slot s p) (row_cells z (f z)) (cells_from f (z +ℤ pos 1) n)
      (below_later s p z (f z) (is_less s z h)) (later_cells s (z +ℤ pos 1) n (later s z h) p)
    where
      is_less : (s z : ℤ) → int_lt s z ≡ true → int_cmp s z ≡ Less
      is_less s z h = grind (arith, ints)

      later : (s z : ℤ) → int_lt s z ≡ true → int_lt s (z +ℤ pos 1) ≡ true
      later s z h = grind (arith, ints)

  rows_sorted : (z : ℤ) (n : ℕ) → ((slot : ℤ) → ascends (f slot) ≡ true)
      → T (is_sorted cell_slot_cmp (cells_from f z n))
  rows_sorted z zero a = tt
  rows_sorted z (suc n) a = sorted_first z (f z) (cells_from f (z +ℤ pos 1) n) (a z)
      (later_cells z (z +ℤ pos 1) n (next z)) (rows_sorted (z +ℤ pos 1) n a)
    where
      next : (z : ℤ) → int_lt z (z +ℤ pos 1) ≡ true
      next z = grind (arith, ints)

  live_sorted : (limit : ℕ) (newest : Option ℤ) → ((slot : ℤ) → ascends (f slot) ≡ true)
      → T (is_sorted cell_slot_cmp (live_cells limit newest f))
  live_sorted limit None a = tt
  live_sorted limit (Some top) a = rows_sorted ((top -ℤ pos limit) +ℤ pos 1) limit a

  pub entries-cells_by : (limit : ℕ) (newest : Option ℤ) → ((slot : ℤ) → ascends (f slot) ≡ true)
      → entries (cells_by limit newest f) ≡ live_cells limit newest f
  unfolding cells_by
  entries-cells_by limit newest a = entries-from_sorted cell_slot_cmp (live_cells limit newest f)
      (live_sorted limit newest a)

  -- ---- what stands at a cell slot

  find_rows : (z : ℤ) (n : ℕ) (q : CellSlot) → find cell_slot_cmp q (cells_from f z n)
      ≡ cond (within z n q.slot) (entry_at (f q.slot) q.origin) None
  unfolding within
  find_rows z zero q = refl
  find_rows z (suc n) q =
      find_row z (f z) (cells_from f (z +ℤ pos 1) n) q
      ∙ ap (λ o. cond (is_eq (int_cmp q.slot z)) (option_or (entry_at (f z) q.origin) o) o) (find_rows (z +ℤ pos 1) n q)
      ∙ ap (λ b. cond b (option_or (entry_at (f z) q.origin)
      (cond (within (z +ℤ pos 1) n q.slot) (entry_at (f q.slot) q.origin) None))
      (cond (within (z +ℤ pos 1) n q.slot) (entry_at (f q.slot) q.origin) None)) (tie_is q.slot z)
      ∙ elim (int_eq z q.slot) as (λ b. int_eq z q.slot ≡ b
      → cond b (option_or (entry_at (f z) q.origin)
      (cond (within (z +ℤ pos 1) n q.slot) (entry_at (f q.slot) q.origin) None))
      (cond (within (z +ℤ pos 1) n q.slot) (entry_at (f q.slot) q.origin) None)
      ≡ cond (b || within (z +ℤ pos 1) n q.slot) (entry_at (f q.slot) q.origin) None) [
        | true ↦ λ t. ap (λ b. option_or (entry_at (f z) q.origin) (cond b (entry_at (f q.slot) q.origin) None))
            (not_within z n q.slot t) ∙ or_none (entry_at (f z) q.origin)
            ∙ ap (λ s. entry_at (f s) q.origin) (same_slot z q.slot t)
        | false ↦ λ t. refl
      ] refl
    where
      tie_is : (a b : ℤ) → is_eq (int_cmp a b) ≡ int_eq b a
      tie_is a b = grind (arith, ints)

      or_none : (o : Option Contribution) → option_or o None ≡ o
      or_none None = refl
      or_none (Some x) = refl

  -- what is later is nothing
  live_only : {X : Type 0} (limit : ℕ) (top slot : ℤ) (of : List Entry → X)
      → (int_lt top slot ≡ true → is_empty (f slot) ≡ true)
      → cond (int_lt (top -ℤ pos limit) slot && not (int_lt top slot)) (of (f slot)) (of [])
      ≡ cond (int_lt (top -ℤ pos limit) slot) (of (f slot)) (of [])
  live_only limit top slot of none_later = elim (int_lt top slot) as
      (λ b. int_lt top slot ≡ b → cond (int_lt (top -ℤ pos limit) slot && not b) (of (f slot)) (of [])
      ≡ cond (int_lt (top -ℤ pos limit) slot) (of (f slot)) (of [])) [
        | true ↦ λ t. either (int_lt (top -ℤ pos limit) slot) (of (f slot)) (of [])
            (ap of (empty_is (f slot) (none_later t)))
        | false ↦ λ t. same (int_lt (top -ℤ pos limit) slot) (of (f slot)) (of [])
      ] refl
    where
      either : {X : Type 0} (a : Bool) (x y : X) → x ≡ y → cond (a && false) x y ≡ cond a x y
      either true x y e = sym e
      either false x y e = refl

      same : {X : Type 0} (a : Bool) (x y : X) → cond (a && true) x y ≡ cond a x y
      same true x y = refl
      same false x y = refl

  pub get-cells_by : (limit : ℕ) (newest : Option ℤ) → ((slot : ℤ) → ascends (f slot) ≡ true)
      → ((slot : ℤ) → is_later newest slot ≡ true → is_empty (f slot) ≡ true) → (q : CellSlot)
      → get (cells_by limit newest f) q ≡ cond (is_above limit newest q.slot) (entry_at (f q.slot) q.origin) None
  unfolding cells_by
  get-cells_by limit None a none_later q = get-from_sorted cell_slot_cmp [] q tt
      ∙ sym (ap (λ es. entry_at es q.origin) (empty_is (f q.slot) (none_later q.slot refl)))
  get-cells_by limit (Some top) a none_later q =
      let z = (top -ℤ pos limit) +ℤ pos 1 in
      get-from_sorted cell_slot_cmp (cells_from f z limit) q (live_sorted limit (Some top) a)
      ∙ find_rows z limit q
      ∙ ap (λ b. cond b (entry_at (f q.slot) q.origin) None) (within_live limit top q.slot)
      ∙ live_only limit top q.slot (λ es. entry_at es q.origin) (none_later q.slot)

  -- ---- the entries of a slot

  kept_rows : (z : ℤ) (n : ℕ) (slot : ℤ) → map entry_of (filter (at_slot slot) (cells_from f z n))
      ≡ cond (within z n slot) (f slot) []
  unfolding within
  kept_rows z zero slot = refl
  kept_rows z (suc n) slot =
      ap (map entry_of) (filter-append (at_slot slot) (row_cells z (f z)) (cells_from f (z +ℤ pos 1) n))
      ∙ elim (int_eq z slot) as (λ b. int_eq z slot ≡ b
      → map entry_of (filter (at_slot slot) (row_cells z (f z))
      ++ filter (at_slot slot) (cells_from f (z +ℤ pos 1) n)) ≡ cond (b || within (z +ℤ pos 1) n slot) (f slot) []) [
        | true ↦ λ t.
            ap (λ es. map entry_of (filter (at_slot slot) (row_cells z (f z)) ++ es))
            (none_mapped _ (kept_rows (z +ℤ pos 1) n slot ∙ ap (λ b. cond b (f slot) []) (not_within z n slot t)))
            ∙ ap (map entry_of) (append-nil (filter (at_slot slot) (row_cells z (f z))))
            ∙ kept_row z slot (f z) t ∙ ap f (same_slot z slot t)
        | false ↦ λ t. ap (λ es. map entry_of (es ++ filter (at_slot slot) (cells_from f (z +ℤ pos 1) n)))
            (dropped_row z slot (f z) t) ∙ kept_rows (z +ℤ pos 1) n slot
      ] refl
    where
      none_mapped : (es : List (CellSlot × Contribution)) → map entry_of es ≡ [] → es ≡ []
      none_mapped [] e = refl
      none_mapped (x ∷ es) e = absurd (cc)

  pub row_of-cells_by : (limit : ℕ) (newest : Option ℤ) → ((slot : ℤ) → ascends (f slot) ≡ true)
      → ((slot : ℤ) → is_later newest slot ≡ true → is_empty (f slot) ≡ true) → (slot : ℤ)
      → row_of (cells_by limit newest f) slot ≡ cond (is_above limit newest slot) (f slot) []
  unfolding row_of
  row_of-cells_by limit None a none_later slot = ap (λ es. map entry_of (filter (at_slot slot) es))
      (entries-cells_by limit None a) ∙ sym (empty_is (f slot) (none_later slot refl))
  row_of-cells_by limit (Some top) a none_later slot =
      ap (λ es. map entry_of (filter (at_slot slot) es)) (entries-cells_by limit (Some top) a)
      ∙ kept_rows ((top -ℤ pos limit) +ℤ pos 1) limit slot
      ∙ ap (λ b. cond b (f slot) []) (within_live limit top slot)
      ∙ live_only limit top slot (λ es. es) (none_later slot)
