-- The cells of rows whose slots and origins ascend, as one list in order.
use Rattle.std.proofs.Common.{◌≡◌, ℕ, ℤ, true, false, cond, T, List, [], ◌∷◌, ◌++◌, map, refl, sym, ap, ◌∙◌, subst, Option, Some, None, Less, int_cmp, arith, append-nil}
use Rattle.std.specs.Global.{Vec}
use Rattle.std.specs.List.{filter, AllByRecursion}
use Rattle.std.specs.List.Sorted.{IsStrictlySortedBy}
use Rattle.std.specs.Map.{keys_of}
use Rattle.std.specs.Option.{option_and_then, option_or}
use Rattle.std.specs.Ordering.{is_eq, int_eq}
use Rattle.std.specs.Cmp.{int_cmp_total, eq_by_cmp_equiv}
use Rattle.std.specs.FinMap.{entries, find, from_sorted, entries-from_sorted, get-from_sorted, same_map, is_sorted, int_cmp-IsAntisymmetric}
use Rattle.std.specs.FinMap.Entries.{below_all}
use Rattle.std.proofs.lemmas.List.Elements.{filter-append}
use Rattle.std.proofs.lemmas.Int.{ints}
use Rattle.rr_join.proofs.Members.{tie_itself}
use Rattle.rr_contrib.specs.declared.contribution.Contribution.{Contribution}
use Rattle.rr_archive.specs.declared.entry.Entry.{Entry}
use Rattle.rr_archive.specs.CellSlots.{CellSlot, cell_slot, cell_slot_cmp}
use Rattle.rr_archive.specs.Cells.{entry_of, row_of}
use Rattle.rr_archive.specs.Row.{entry_at, ascends}
use Rattle.rr_archive.specs.ArchiveState.{row_in, cell_in, cells_in, row_ascends, RowsAscend}
use Rattle.rr_archive.proofs.CellSlotOrder.{cell_slot_cmp_total, cell_slot_cmp-IsAntisymmetric}
use Rattle.rr_archive.proofs.RowCells.{row_cells, below_later, below_append, sorted_first, find_row, at_slot, kept_row, dropped_row}
use Rattle.rr_archive.proofs.ArchiveStateLemmas.{get-cells_in, items_of, same_slot}

abbrev pub cells_list : List (ℤ × Vec Entry) → List (CellSlot × Contribution)
cells_list [] = []
cells_list (r ∷ rs) = row_cells r.0 r.1.items ++ cells_list rs

-- rows whose slots ascend, each of entries that ascend
pub data Listed : List (ℤ × Vec Entry) → Type 0 where
  none : Listed []
  more : {r : ℤ × Vec Entry} {rs : List (ℤ × Vec Entry)} → AllByRecursion (λ s. int_cmp r.0 s ≡ Less) (keys_of rs)
      → ascends r.1.items ≡ true → Listed rs → Listed (r ∷ rs)

-- ---- in order

below_rows : (s : ℤ) (o : ℕ) (rs : List (ℤ × Vec Entry)) → AllByRecursion (λ t. int_cmp s t ≡ Less) (keys_of rs)
    → T (below_all cell_slot_cmp (cell_slot s o) (cells_list rs))
below_rows s o [] h = tt
below_rows s o (r ∷ rs) h = below_append (cell_slot s o) (row_cells r.0 r.1.items) (cells_list rs)
    (below_later s o r.0 r.1.items h.0) (below_rows s o rs h.1)

cells_sorted : (rows : List (ℤ × Vec Entry)) → Listed rows → T (is_sorted cell_slot_cmp (cells_list rows))
cells_sorted [] none = tt
cells_sorted (r ∷ rs) (more later a rest) = sorted_first r.0 r.1.items (cells_list rs) a
    (λ p. below_rows r.0 p rs later) (cells_sorted rs rest)

-- ---- what stands at a cell slot

pub none_later : (s q : ℤ) (rs : List (ℤ × Vec Entry)) → s ≡ q → AllByRecursion (λ t. int_cmp s t ≡ Less) (keys_of rs)
    → row_in rs q ≡ None
none_later s q [] e h = refl
none_later s q (r ∷ rs) e h = ap (λ b. cond b (Some r.1) (row_in rs q))
    (ap (λ z. is_eq (int_cmp z r.0)) (sym e) ∙ ap is_eq h.0) ∙ none_later s q rs e h.1

find_cells : (rows : List (ℤ × Vec Entry)) (q : CellSlot) → Listed rows
    → find cell_slot_cmp q (cells_list rows) ≡ cell_in rows q
find_cells [] q none = refl
find_cells (r ∷ rs) q (more later a rest) =
    find_row r.0 r.1.items (cells_list rs) q
    ∙ ap (λ o. cond (is_eq (int_cmp q.slot r.0)) (option_or (entry_at r.1.items q.origin) o) o) (find_cells rs q rest)
    ∙ elim (is_eq (int_cmp q.slot r.0)) as (λ b. is_eq (int_cmp q.slot r.0) ≡ b
    → cond b (option_or (entry_at r.1.items q.origin) (cell_in rs q)) (cell_in rs q)
    ≡ option_and_then (λ (w : Vec Entry). entry_at w.items q.origin) (cond b (Some r.1) (row_in rs q.slot))) [
      | true ↦ λ t. ap (λ w. option_or (entry_at r.1.items q.origin)
          (option_and_then (λ (v : Vec Entry). entry_at v.items q.origin) w))
          (none_later r.0 q.slot rs (sym (same_slot q.slot r.0 t)) later) ∙ or_none (entry_at r.1.items q.origin)
      | false ↦ λ t. refl
    ] refl
  where
    or_none : (o : Option Contribution) → option_or o None ≡ o
    or_none None = refl
    or_none (Some x) = refl

pub entries-cells_in : (rows : List (ℤ × Vec Entry)) → Listed rows → entries (cells_in rows) ≡ cells_list rows
entries-cells_in rows l =
    let sorted = cells_sorted rows l in
    ap entries (same_map cell_slot_cmp_total cell_slot_cmp-IsAntisymmetric (cells_in rows)
    (from_sorted (cells_list rows)) (λ q.
    get-cells_in rows q ∙ sym (find_cells rows q l) ∙ sym (get-from_sorted cell_slot_cmp (cells_list rows) q sorted)))
    ∙ entries-from_sorted cell_slot_cmp (cells_list rows) sorted

-- ---- the entries of a slot

dropped_later : (s slot : ℤ) (rs : List (ℤ × Vec Entry)) → s ≡ slot
    → AllByRecursion (λ t. int_cmp s t ≡ Less) (keys_of rs) → filter (at_slot slot) (cells_list rs) ≡ []
dropped_later s slot [] e h = refl
dropped_later s slot (r ∷ rs) e h =
    filter-append (at_slot slot) (row_cells r.0 r.1.items) (cells_list rs)
    ∙ (λ i. dropped_row r.0 slot r.1.items (later_apart r.0 slot (subst (λ z. int_cmp z r.0 ≡ Less) e h.0)) i
    ++ dropped_later s slot rs e h.1 i)
  where
    later_apart : (t z : ℤ) → int_cmp z t ≡ Less → int_eq t z ≡ false
    later_apart t z h = grind (arith, ints)

listed : (rows : List (ℤ × Vec Entry)) (slot : ℤ) → Listed rows
    → map entry_of (filter (at_slot slot) (cells_list rows)) ≡ items_of (row_in rows slot)
listed [] slot none = refl
listed (r ∷ rs) slot (more later a rest) =
    ap (map entry_of) (filter-append (at_slot slot) (row_cells r.0 r.1.items) (cells_list rs))
    ∙ elim (is_eq (int_cmp slot r.0)) as (λ b. is_eq (int_cmp slot r.0) ≡ b
    → map entry_of (filter (at_slot slot) (row_cells r.0 r.1.items) ++ filter (at_slot slot) (cells_list rs))
    ≡ items_of (cond b (Some r.1) (row_in rs slot))) [
      | true ↦ λ t.
          ap (λ l. map entry_of (filter (at_slot slot) (row_cells r.0 r.1.items) ++ l))
          (dropped_later r.0 slot rs (sym (same_slot slot r.0 t)) later)
          ∙ ap (map entry_of) (append-nil (filter (at_slot slot) (row_cells r.0 r.1.items)))
          ∙ kept_row r.0 slot r.1.items ((eq_by_cmp_equiv int_cmp_total).symm r.0 slot ∙ t)
      | false ↦ λ t.
          ap (λ l. map entry_of (l ++ filter (at_slot slot) (cells_list rs)))
          (dropped_row r.0 slot r.1.items ((eq_by_cmp_equiv int_cmp_total).symm r.0 slot ∙ t))
          ∙ listed rs slot rest
    ] refl

pub row_of-cells_in : (rows : List (ℤ × Vec Entry)) (slot : ℤ) → Listed rows
    → row_of (cells_in rows) slot ≡ items_of (row_in rows slot)
unfolding row_of
row_of-cells_in rows slot l = ap (λ es. map entry_of (filter (at_slot slot) es)) (entries-cells_in rows l)
    ∙ listed rows slot l

-- of rows that ascend, those after the first do
pub rest_ascends : (r : ℤ × Vec Entry) (rs : List (ℤ × Vec Entry))
    → AllByRecursion (λ s. int_cmp r.0 s ≡ Less) (keys_of rs) → RowsAscend (r ∷ rs) → RowsAscend rs
rest_ascends r rs later ascend = λ slot. elim (is_eq (int_cmp slot r.0)) as
    (λ b. is_eq (int_cmp slot r.0) ≡ b → row_ascends (cond b (Some r.1) (row_in rs slot)) ≡ true
    → row_ascends (row_in rs slot) ≡ true) [
      | true ↦ λ t _. ap row_ascends (none_later r.0 slot rs (sym (same_slot slot r.0 t)) later)
      | false ↦ λ t h. h
    ] refl (ascend slot)

pub listed_from : (rows : List (ℤ × Vec Entry)) → IsStrictlySortedBy int_cmp (keys_of rows) → RowsAscend rows
    → Listed rows
unfolding IsStrictlySortedBy
listed_from [] sorted ascend = none
listed_from (r ∷ rs) sorted ascend =
    more sorted.0
    (ap (λ b. row_ascends (cond b (Some r.1) (row_in rs r.0)))
    (sym (tie_itself int_cmp_total int_cmp-IsAntisymmetric r.0)) ∙ ascend r.0)
    (listed_from rs sorted.1 (rest_ascends r rs sorted.0 ascend))
