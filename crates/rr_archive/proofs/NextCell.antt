-- The first cell after a cell slot, row by row.
use Rattle.std.proofs.Common.{◌≡◌, ℕ, ℤ, Bool, true, false, cond, ◌&&◌, List, [], ◌∷◌, ◌++◌, refl, sym, ap, ◌∙◌, Option, Some, None, int_cmp, arith, subst}
use Rattle.std.specs.Global.{Vec}
use Rattle.std.specs.List.{filter, find}
use Rattle.std.specs.Option.{option_map, option_or}
use Rattle.std.specs.Ordering.{is_le}
use Rattle.std.proofs.lemmas.List.Folds.{find-append}
use Rattle.std.proofs.lemmas.Int.{ints}
use Rattle.std.specs.Prelude.{int_lt}
use Rattle.std.specs.BTreeMap.Range.{entries_between}
use Rattle.std.specs.declared.ops.Bound.TheVariants.{Included, Unbounded}
use Rattle.rr_archive.specs.declared.entry.Entry.{Entry}
use Rattle.rr_archive.specs.CellSlots.{CellSlot, cell_slot}
use Rattle.rr_archive.specs.Cells.{cell_of, next_cell}
use Rattle.rr_archive.specs.Row.{is_after}
use Rattle.rr_archive.specs.ArchiveState.{cells_in}
use Rattle.rr_archive.proofs.RowCells.{row_cells, is_past, none_in_row, first_past}
use Rattle.rr_archive.proofs.Listing.{Listed, cells_list, entries-cells_in}

-- the first cell of rows after a cell slot
abbrev pub first_in : CellSlot → List (ℤ × Vec Entry) → Option (ℤ × Entry)
first_in p rows = option_map cell_of (find (is_past p) (cells_list rows))

-- ---- one row

-- the first of a row's, or else of those after it
pub first_in-row : (slot at : ℤ) (o : ℕ) (row : Vec Entry) (rest : List (ℤ × Vec Entry)) → int_lt at slot ≡ false
    → first_in (cell_slot slot o) ((at, row) ∷ rest)
    ≡ option_or (option_map (λ e. (at, e)) (find (is_after (int_lt slot at) o) row.items))
    (first_in (cell_slot slot o) rest)
first_in-row slot at o row rest h = first_past slot at o row.items (cells_list rest) h

-- ---- the rows from a slot on

find-filter : (slot : ℤ) (o : ℕ) (keep : ℤ × Vec Entry → Bool) (rows : List (ℤ × Vec Entry))
    → ((r : ℤ × Vec Entry) → keep r ≡ false → int_lt r.0 slot ≡ true)
    → find (is_past (cell_slot slot o)) (cells_list (filter keep rows))
    ≡ find (is_past (cell_slot slot o)) (cells_list rows)
find-filter slot o keep [] before = refl
find-filter slot o keep (r ∷ rs) before =
    let p = cell_slot slot o in
    let here = row_cells r.0 r.1.items in
    let rest = find-filter slot o keep rs before in
    elim (keep r) as (λ b. keep r ≡ b → find (is_past p) (cells_list (cond b (r ∷ filter keep rs) (filter keep rs)))
    ≡ find (is_past p) (here ++ cells_list rs)) [
      | true ↦ λ t. find-append (is_past p) here (cells_list (filter keep rs))
          ∙ ap (option_or (find (is_past p) here)) rest ∙ sym (find-append (is_past p) here (cells_list rs))
      | false ↦ λ t. rest ∙ ap (λ a. option_or a (find (is_past p) (cells_list rs)))
          (sym (none_in_row slot r.0 o r.1.items (before r t))) ∙ sym (find-append (is_past p) here (cells_list rs))
    ] refl

-- none of them is before it
pub From : ℤ → List (ℤ × Vec Entry) → Type 0
From slot [] = Unit {0}
From slot (r ∷ rs) = (int_lt r.0 slot ≡ false) × From slot rs

from_filter : (slot : ℤ) (keep : ℤ × Vec Entry → Bool) (rows : List (ℤ × Vec Entry))
    → ((r : ℤ × Vec Entry) → keep r ≡ true → int_lt r.0 slot ≡ false) → From slot (filter keep rows)
unfolding From
from_filter slot keep [] kept = tt
from_filter slot keep (r ∷ rs) kept = elim (keep r) as
    (λ b. keep r ≡ b → From slot (cond b (r ∷ filter keep rs) (filter keep rs))) [
      | true ↦ λ t. (kept r t, from_filter slot keep rs kept)
      | false ↦ λ t. from_filter slot keep rs kept
    ] refl

-- what is left of the rows from a slot on has the first cell after a cell slot of it
pub record LeftFrom (slot : ℤ) (o : ℕ) (rows left : List (ℤ × Vec Entry)) : Type 0 where
  pub from : From slot left
  pub first : first_in (cell_slot slot o) left ≡ first_in (cell_slot slot o) rows

pub left_from : (slot : ℤ) (o : ℕ) (rows left : List (ℤ × Vec Entry))
    → left ≡ entries_between int_cmp (Included slot) Unbounded rows → LeftFrom slot o rows left
left_from slot o rows left is = subst (LeftFrom slot o rows) (sym is) (record {
  from = from_filter slot _ rows (λ r t. not_before slot r.0 t);
  first = ap (option_map cell_of) (find-filter slot o _ rows (λ r t. is_before slot r.0 t));
})
  where
    not_before : (x y : ℤ) → (is_le (int_cmp x y) && true) ≡ true → int_lt y x ≡ false
    not_before x y h = grind (arith, ints)

    is_before : (x y : ℤ) → (is_le (int_cmp x y) && true) ≡ false → int_lt y x ≡ true
    is_before x y h = grind (arith, ints)

-- a row that has no cell after the cell slot
pub left_more : (slot at : ℤ) (o : ℕ) (rows left rest : List (ℤ × Vec Entry)) (row : Vec Entry)
    → LeftFrom slot o rows left → left ≡ (at, row) ∷ rest → find (is_after (int_lt slot at) o) row.items ≡ None
    → LeftFrom slot o rows rest
unfolding From
left_more slot at o rows left rest row l is none =
    let from = subst (From slot) is l.from in
    record {
      from = from.1;
      first =
          ap (λ a. option_or (option_map (λ e. (at, e)) a) (first_in (cell_slot slot o) rest)) (sym none)
          ∙ sym (first_in-row slot at o row rest from.0)
          ∙ ap (first_in (cell_slot slot o)) (sym is) ∙ l.first;
    }

-- one that has
pub left_found : (slot at : ℤ) (o : ℕ) (rows left rest : List (ℤ × Vec Entry)) (row : Vec Entry) (e : Entry)
    → LeftFrom slot o rows left → left ≡ (at, row) ∷ rest → find (is_after (int_lt slot at) o) row.items ≡ Some e
    → first_in (cell_slot slot o) rows ≡ Some (at, e)
unfolding From
left_found slot at o rows left rest row e l is some =
    let from = subst (From slot) is l.from in
    sym l.first ∙ ap (first_in (cell_slot slot o)) is
    ∙ first_in-row slot at o row rest from.0
    ∙ ap (λ a. option_or (option_map (λ x. (at, x)) a) (first_in (cell_slot slot o) rest)) some

pub left_none : (slot : ℤ) (o : ℕ) (rows left : List (ℤ × Vec Entry)) → LeftFrom slot o rows left → left ≡ []
    → first_in (cell_slot slot o) rows ≡ None
left_none slot o rows left l is = sym l.first ∙ ap (first_in (cell_slot slot o)) is

-- the cells of the rows
pub next_cell-is : (rows : List (ℤ × Vec Entry)) (p : CellSlot) → Listed rows
    → option_map cell_of (next_cell (cells_in rows) p) ≡ first_in p rows
next_cell-is rows p l = ap (λ es. option_map cell_of (find (is_past p) es)) (entries-cells_in rows l)
