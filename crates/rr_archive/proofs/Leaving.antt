-- Rows that leave from the first on, until the first is live.
use Rattle.std.proofs.Common.{◌≡◌, ℕ, ◌-◌, ℤ, pos, ◌-ℤ◌, Bool, true, false, cond, not, List, [], ◌∷◌, ◌++◌, drop, length, refl, sym, ap, ◌∙◌, true≢false, Some, Less, int_cmp, arith}
use Rattle.std.specs.Prelude.{int_lt}
use Rattle.std.specs.Global.{Vec}
use Rattle.std.specs.List.{filter, AllByRecursion}
use Rattle.std.specs.List.Sorted.{IsStrictlySortedBy}
use Rattle.std.specs.Map.{keys_of}
use Rattle.std.specs.FinMap.{entries, find, get-entries, same_map, retain_keys, len, len-entries}
use Rattle.std.proofs.lemmas.Bool.{not-true}
use Rattle.std.proofs.lemmas.Int.{ints}
use Rattle.std.proofs.lemmas.List.Elements.{filter-append}
use Rattle.rr_join.proofs.Keys.{entries-retain}
use Rattle.rr_contrib.specs.declared.contribution.Contribution.{Contribution}
use Rattle.rr_archive.specs.declared.entry.Entry.{Entry}
use Rattle.rr_join.specs.Horizon.{is_above}
use Rattle.rr_archive.specs.CellSlots.{CellSlot, cell_slot, cell_slot_cmp}
use Rattle.rr_archive.specs.Cells.{ArchiveCells}
use Rattle.rr_archive.specs.ArchiveState.{cells_in, RowsAscend, starts_dead, first_len}
use Rattle.rr_archive.proofs.CellSlotOrder.{cell_slot_cmp_total, cell_slot_cmp-IsAntisymmetric}
use Rattle.rr_archive.proofs.RowCells.{row_cells}
use Rattle.rr_archive.proofs.Listing.{cells_list, listed_from, entries-cells_in, rest_ascends}

abbrev is_kept : ℕ → ℤ → CellSlot × Contribution → Bool
is_kept limit top e = is_above limit (Some top) e.0.slot

-- ---- one row, and those after it

none_kept : (limit : ℕ) (top slot : ℤ) (es : List Entry) → is_above limit (Some top) slot ≡ false
    → filter (is_kept limit top) (row_cells slot es) ≡ []
none_kept limit top slot [] h = refl
none_kept limit top slot (e ∷ es) h = ap (λ b. cond b
    ((cell_slot slot e.origin, e.contribution) ∷ filter (is_kept limit top) (row_cells slot es))
    (filter (is_kept limit top) (row_cells slot es))) h ∙ none_kept limit top slot es h

all_kept : (limit : ℕ) (top slot : ℤ) (es : List Entry) → is_above limit (Some top) slot ≡ true
    → filter (is_kept limit top) (row_cells slot es) ≡ row_cells slot es
all_kept limit top slot [] h = refl
all_kept limit top slot (e ∷ es) h =
    ap (λ b. cond b ((cell_slot slot e.origin, e.contribution) ∷ filter (is_kept limit top) (row_cells slot es))
    (filter (is_kept limit top) (row_cells slot es))) h
    ∙ ap (λ l. (cell_slot slot e.origin, e.contribution) ∷ l) (all_kept limit top slot es h)

later_above : (limit : ℕ) (top slot t : ℤ) → is_above limit (Some top) slot ≡ true → int_cmp slot t ≡ Less
    → is_above limit (Some top) t ≡ true
later_above limit top slot t h less = further (top -ℤ pos limit) slot t h less
  where
    further : (z x y : ℤ) → int_lt z x ≡ true → int_cmp x y ≡ Less → int_lt z y ≡ true
    further z x y h less = grind (arith, ints)

all_later : (limit : ℕ) (top slot : ℤ) (rs : List (ℤ × Vec Entry)) → is_above limit (Some top) slot ≡ true
    → AllByRecursion (λ t. int_cmp slot t ≡ Less) (keys_of rs)
    → filter (is_kept limit top) (cells_list rs) ≡ cells_list rs
all_later limit top slot [] h later = refl
all_later limit top slot (r ∷ rs) h later =
    filter-append (is_kept limit top) (row_cells r.0 r.1.items) (cells_list rs)
    ∙ (λ i. all_kept limit top r.0 r.1.items (later_above limit top slot r.0 h later.0) i
    ++ all_later limit top slot rs h later.1 i)

-- ---- what is left of rows

pub record LeftOver (limit : ℕ) (top : ℤ) (rows left : List (ℤ × Vec Entry)) (count : ℕ) : Type 0 where
  pub live : filter (is_kept limit top) (cells_list left) ≡ filter (is_kept limit top) (cells_list rows)
  pub counted : count ≡ length (cells_list left)
  pub ascend : RowsAscend left
  pub ordered : IsStrictlySortedBy int_cmp (keys_of left)

length-row_cells : (slot : ℤ) (es : List Entry) (rest : List (CellSlot × Contribution))
    → length (row_cells slot es ++ rest) - length es ≡ length rest
length-row_cells slot [] rest = omega arith
length-row_cells slot (e ∷ es) rest = let h = length-row_cells slot es rest in omega arith

pub left_all : (limit : ℕ) (top : ℤ) (rows : List (ℤ × Vec Entry)) (count : ℕ) → RowsAscend rows
    → IsStrictlySortedBy int_cmp (keys_of rows) → count ≡ len (cells_in rows) → LeftOver limit top rows rows count
left_all limit top rows count ascend ordered counted = record {
  live = refl;
  counted = counted ∙ len-entries (cells_in rows) ∙ ap length (entries-cells_in rows (listed_from rows ordered ascend));
  ascend = ascend;
  ordered = ordered;
}

pub left_fewer : (limit : ℕ) (top : ℤ) (rows left : List (ℤ × Vec Entry)) (count : ℕ)
    → LeftOver limit top rows left count → starts_dead limit top left ≡ true
    → LeftOver limit top rows (drop 1 left) (count - first_len left)
unfolding IsStrictlySortedBy
left_fewer limit top rows [] count l dead = absurd (true≢false (sym dead))
left_fewer limit top rows (r ∷ rs) count l dead = record {
  live =
      ap (λ es. es ++ filter (is_kept limit top) (cells_list rs))
      (sym (none_kept limit top r.0 r.1.items (not-true _ dead)))
      ∙ sym (filter-append (is_kept limit top) (row_cells r.0 r.1.items) (cells_list rs))
      ∙ l.live;
  counted = ap (λ n. n - length r.1.items) l.counted ∙ length-row_cells r.0 r.1.items (cells_list rs);
  ascend = rest_ascends r rs l.ordered.0 l.ascend;
  ordered = l.ordered.1;
}

-- ---- once the first row is live

live_left : (limit : ℕ) (top : ℤ) (left : List (ℤ × Vec Entry)) → IsStrictlySortedBy int_cmp (keys_of left)
    → starts_dead limit top left ≡ false → filter (is_kept limit top) (cells_list left) ≡ cells_list left
unfolding IsStrictlySortedBy
live_left limit top [] ordered alive = refl
live_left limit top (r ∷ rs) ordered alive =
    let here = not_false (is_above limit (Some top) r.0) alive in
    filter-append (is_kept limit top) (row_cells r.0 r.1.items) (cells_list rs)
    ∙ (λ i. all_kept limit top r.0 r.1.items here i ++ all_later limit top r.0 rs here ordered.0 i)
  where
    not_false : (b : Bool) → not b ≡ false → b ≡ true
    not_false true e = refl
    not_false false e = sym e

same_entries : (m n : ArchiveCells) → entries m ≡ entries n → m ≡ n
same_entries m n e = same_map cell_slot_cmp_total cell_slot_cmp-IsAntisymmetric m n
    (λ q. get-entries m q ∙ ap (find cell_slot_cmp q) e ∙ sym (get-entries n q))

pub left_live : (limit : ℕ) (top : ℤ) (rows left : List (ℤ × Vec Entry)) (count : ℕ) → RowsAscend rows
    → IsStrictlySortedBy int_cmp (keys_of rows) → LeftOver limit top rows left count
    → starts_dead limit top left ≡ false → cells_in left
    ≡ retain_keys (cells_in rows) (λ p. is_above limit (Some top) p.slot)
left_live limit top rows left count ascend ordered l alive = same_entries _ _
    (entries-cells_in left (listed_from left l.ordered l.ascend)
    ∙ sym (live_left limit top left l.ordered alive) ∙ l.live
    ∙ ap (filter (is_kept limit top)) (sym (entries-cells_in rows (listed_from rows ordered ascend)))
    ∙ sym (entries-retain cell_slot_cmp_total cell_slot_cmp-IsAntisymmetric (cells_in rows)
    (λ p. is_above limit (Some top) p.slot)))

pub left_count : (limit : ℕ) (top : ℤ) (rows left : List (ℤ × Vec Entry)) (count : ℕ)
    → LeftOver limit top rows left count → count ≡ len (cells_in left)
left_count limit top rows left count l = l.counted
    ∙ ap length (sym (entries-cells_in left (listed_from left l.ordered l.ascend))) ∙ sym (len-entries (cells_in left))
