-- Pages that are cut from a list of cells.
use Rattle.std.proofs.Common.{◌≡◌, ℕ, zero, suc, ◌+◌, ◌≤◌, List, [], ◌∷◌, map, take, drop, length, refl, sym, ap, ◌∙◌, arith, Some, Bool, false, true≢false, All}
use Rattle.std.specs.List.{take-map, drop-map}
use Rattle.std.proofs.lemmas.List.{length-take}
use Rattle.rr_replica.proofs.Each.{length-map}
use Rattle.std.proofs.lemmas.List.Elements.{All-drop, All-take, All-from_recursion, recursion_from_All}
use Rattle.std.specs.FinMap.{is_sorted}
use Rattle.rr_text.specs.declared.limits.TheConstants.{MAX_PAGE_CELLS}
use Rattle.rr_schema.specs.Schema.{Layout}
use Rattle.rr_join.proofs.Booleans.{T_from_true, true_from_T}
use Rattle.rr_cells.specs.CellNames.{cell_name_cmp}
use Rattle.rr_page.specs.Page.{IsPage, page_text}
use Rattle.rr_page.specs.Version.{latest}
use Rattle.rr_cells.specs.declared.cell.Cell.{Cell}
use Rattle.rr_cells.specs.CellBounds.{NamedCell, IsCellOf}
use Rattle.rr_cells.specs.Listing.{owned_cell}
use Rattle.std.specs.Prelude.{◌==◌, IsTrue}
use Rattle.rr_delta.proofs.HeldLemmas.{all_mapped}
use Rattle.rr_delta.proofs.Walks.{sorted_take, sorted_drop}
use Rattle.rr_gossip.specs.Pages.{AreLeft, next_cells, next_page, after_page}

-- what is left makes a page of its first cells
pub left_page : (s : Layout) (es : List NamedCell) → AreLeft (s, es) → IsPage s (next_cells es)
left_page s es left = record {
  count_fits = omega (arith, length-take MAX_PAGE_CELLS es);
  cells = All-take (IsCellOf s) MAX_PAGE_CELLS es left.cells;
  names_ascend = true_from_T (is_sorted cell_name_cmp (next_cells es))
      (sorted_take MAX_PAGE_CELLS es (T_from_true (is_sorted cell_name_cmp es) left.names_ascend));
}

-- and others that are left after it
pub left_after : (s : Layout) (es : List NamedCell) → AreLeft (s, es) → AreLeft (after_page (s, es))
left_after s es left = record {
  cells = All-drop (IsCellOf s) MAX_PAGE_CELLS es left.cells;
  names_ascend = true_from_T (is_sorted cell_name_cmp (drop MAX_PAGE_CELLS es))
      (sorted_drop MAX_PAGE_CELLS es (T_from_true (is_sorted cell_name_cmp es) left.names_ascend));
}

pub drop_taken : {X : Type 0} (n : ℕ) (xs : List X) → drop (length (take n xs)) xs ≡ drop n xs
drop_taken zero [] = refl
drop_taken zero (x ∷ xs) = refl
drop_taken (suc n) [] = refl
drop_taken (suc n) (x ∷ xs) = drop_taken n xs

drop_nothing : {X : Type 0} (n : ℕ) → ◌≡◌ {A = List X} (drop n []) []
drop_nothing zero = refl
drop_nothing (suc n) = refl

pub drop_twice : {X : Type 0} (m n : ℕ) (xs : List X) → drop (m + n) xs ≡ drop n (drop m xs)
drop_twice zero n xs = ap (λ k. drop k xs) (nothing n)
  where
    nothing : (k : ℕ) → zero + k ≡ k
    nothing k = omega arith
drop_twice (suc m) n [] = drop_nothing (suc m + n) ∙ sym (drop_nothing n)
drop_twice (suc m) n (x ∷ xs) = ap (λ k. drop k (x ∷ xs)) (one_more m n) ∙ drop_twice m n xs
  where
    one_more : (a b : ℕ) → suc a + b ≡ suc (a + b)
    one_more a b = omega arith

module _ (items cells : List Cell) (sent : ℕ) (is : cells ≡ take MAX_PAGE_CELLS (drop sent items)) where
  -- the next cells, as the code cuts them
  pub cut : map owned_cell cells ≡ next_cells (drop sent (map owned_cell items))
  cut = ap (map owned_cell) is ∙ sym (take-map owned_cell MAX_PAGE_CELLS (drop sent items))
      ∙ ap (take MAX_PAGE_CELLS) (sym (drop-map owned_cell sent items))

  pub cut_off : drop (sent + length cells) (map owned_cell items)
      ≡ drop MAX_PAGE_CELLS (drop sent (map owned_cell items))
  cut_off =
      drop_twice sent (length cells) (map owned_cell items)
      ∙ ap (λ n. drop n (drop sent (map owned_cell items))) (sym (length-map owned_cell cells) ∙ ap length cut)
      ∙ drop_taken MAX_PAGE_CELLS (drop sent (map owned_cell items))

  pub page_is : (s : Layout) → 1 ≤ length cells → next_page (s, drop sent (map owned_cell items))
      ≡ Some (page_text latest s (map owned_cell cells))
  page_is s some = at (drop sent (map owned_cell items)) cut
    where
      at : (es : List NamedCell) → map owned_cell cells ≡ next_cells es
          → next_page (s, es) ≡ Some (page_text latest s (map owned_cell cells))
      at [] e = absurd (omega (arith, some, length-map owned_cell cells, ap length e))
      at (x ∷ es) e = ap (λ l. Some (page_text latest s l)) (sym e)

-- cells of a schema are left whole
pub all_left : (s : Layout) (cells : List Cell) → All (λ c. IsCellOf s (owned_cell c)) cells
    → IsTrue (is_sorted cell_name_cmp (map owned_cell cells)) → AreLeft (s, map owned_cell cells)
all_left s cells each ascend = record {
  cells = All-from_recursion (IsCellOf s) (map owned_cell cells)
      (all_mapped (IsCellOf s) owned_cell cells (recursion_from_All (λ c. IsCellOf s (owned_cell c)) cells each));
  names_ascend = ascend;
}

pub some_from : (b : Bool) (n : ℕ) → b ≡ (n == 0) → b ≡ false → 1 ≤ n
some_from b zero e f = absurd (true≢false (sym e ∙ f))
some_from b (suc n) e f = omega arith
