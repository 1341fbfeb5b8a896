-- The entries of a map of cells: what holds of each of them, and parts of them.
use Rattle.std.proofs.Common.{◌≡◌, ℕ, zero, suc, ◌≤◌, Bool, true, false, cond, ◌||◌, T, List, [], ◌∷◌, map, take, drop, length, Some, None, refl, sym, ap, ◌∙◌, arith}
use Rattle.std.specs.FinMap.{find, get, entries, entries_sorted, is_sorted, from_entries, from_sorted, get-entries, get-from_entries, get-from_sorted, entries-from_sorted, same_map}
use Rattle.std.specs.FinMap.Entries.{below_all}
use Rattle.std.specs.List.{All, AllByRecursion}
use Rattle.std.specs.Ordering.{eq_by_cmp, is_lt}
use Rattle.std.proofs.lemmas.List.{length-take}
use Rattle.std.proofs.lemmas.List.Elements.{All-from_recursion, All-take, All-drop}
use Rattle.rr_text.specs.declared.limits.TheConstants.{MAX_PAGE_CELLS}
use Rattle.rr_schema.specs.Schema.{Layout}
use Rattle.rr_contrib.specs.declared.contribution.Contribution.{Contribution}
use Rattle.rr_join.proofs.Booleans.{T_and, first_T, second_T, true_from_T}
use Rattle.rr_join.proofs.Distinct.{IsDistinct, keys_distinct}
use Rattle.rr_join.proofs.Distinct.IsDistinct.{more}
use Rattle.rr_join.proofs.Members.{is_in, same_from_tie, tie_itself}
use Rattle.rr_cells.specs.CellNames.{CellName, cell_name_cmp}
use Rattle.rr_cells.proofs.Orders.{cell_name_cmp_total, cell_name_cmp-IsAntisymmetric}
use Rattle.rr_page.specs.Page.{IsPage}
use Rattle.rr_cells.specs.CellBounds.{NamedCell, IsCellOf}
use Rattle.rr_cells.specs.Cells.{Cells}
use Rattle.rr_cluster.specs.Model.{part_of}

neither_left : (a b : Bool) → (a || b) ≡ false → a ≡ false
neither_left true b e = e
neither_left false b e = refl

neither_right : (a b : Bool) → (a || b) ≡ false → b ≡ false
neither_right true b e = absurd cc
neither_right false b e = e

none_found : (es : List NamedCell) (q : CellName) → is_in cell_name_cmp (map (λ e. e.0) es) q ≡ false
    → find cell_name_cmp q es ≡ None
none_found [] q h = refl
none_found (e ∷ es) q h =
    let same = eq_by_cmp cell_name_cmp q e.0 in
    let later = is_in cell_name_cmp (map (λ e. e.0) es) q in
    ap (λ (b : Bool). cond b (Some e.1) (find cell_name_cmp q es)) (neither_left same later h)
    ∙ none_found es q (neither_right same later h)

all_found : (P : NamedCell → Type 0) (es : List NamedCell) → IsDistinct cell_name_cmp (map (λ e. e.0) es)
    → ((n : CellName) (c : Contribution) → find cell_name_cmp n es ≡ Some c → P (n, c)) → AllByRecursion P es
all_found P [] d h = tt
all_found P (e ∷ es) (more apart d) h = (
  h e.0 e.1 (ap (λ (b : Bool). cond b (Some e.1) (find cell_name_cmp e.0 es))
      (tie_itself cell_name_cmp_total cell_name_cmp-IsAntisymmetric e.0)),
  all_found P es d (λ n c at. h n c (elim (eq_by_cmp cell_name_cmp n e.0) as
      (λ b. eq_by_cmp cell_name_cmp n e.0 ≡ b → cond b (Some e.1) (find cell_name_cmp n es) ≡ Some c) [
        | true ↦ λ t. let none = sym (none_found es e.0 apart)
            ∙ ap (λ (q : CellName). find cell_name_cmp q es)
            (sym (same_from_tie cell_name_cmp_total cell_name_cmp-IsAntisymmetric n e.0 t)) ∙ at in absurd cc
        | false ↦ λ t. at
      ] refl)),
)

-- what holds of each name and what the map has there holds of each entry
pub all_entries : (P : NamedCell → Type 0) (m : Cells)
    → ((n : CellName) (c : Contribution) → get m n ≡ Some c → P (n, c)) → AllByRecursion P (entries m)
all_entries P m h = all_found P (entries m) (keys_distinct m) (λ n c at. h n c (get-entries m n ∙ at))

-- ---- parts

below_take : (n : CellName) (count : ℕ) (es : List NamedCell) → T (below_all cell_name_cmp n es)
    → T (below_all cell_name_cmp n (take count es))
below_take n zero es h = tt
below_take n (suc count) [] h = tt
below_take n (suc count) (e ∷ es) h = T_and _ _ (first_T (is_lt (cell_name_cmp n e.0)) _ h)
    (below_take n count es (second_T (is_lt (cell_name_cmp n e.0)) _ h))

sorted_drop : (from : ℕ) (es : List NamedCell) → T (is_sorted cell_name_cmp es)
    → T (is_sorted cell_name_cmp (drop from es))
sorted_drop zero es h = h
sorted_drop (suc from) [] h = tt
sorted_drop (suc from) (e ∷ es) h = sorted_drop from es (second_T (below_all cell_name_cmp e.0 es) _ h)

sorted_take : (count : ℕ) (es : List NamedCell) → T (is_sorted cell_name_cmp es)
    → T (is_sorted cell_name_cmp (take count es))
sorted_take zero es h = tt
sorted_take (suc count) [] h = tt
sorted_take (suc count) (e ∷ es) h =
    T_and _ _ (below_take e.0 count es (first_T (below_all cell_name_cmp e.0 es) _ h))
    (sorted_take count es (second_T (below_all cell_name_cmp e.0 es) _ h))

sorted_part : (es : List NamedCell) (from count : ℕ) → T (is_sorted cell_name_cmp es)
    → T (is_sorted cell_name_cmp (take count (drop from es)))
sorted_part es from count sorted = sorted_take count (drop from es) (sorted_drop from es sorted)

-- the entries of the map of a part of sorted cells are those from the place on
pub entries-of_part : (es : List NamedCell) (from count : ℕ) → T (is_sorted cell_name_cmp es)
    → entries (from_entries {R = cell_name_cmp} (take count (drop from es))) ≡ take count (drop from es)
entries-of_part all from count sorted =
    let es = take count (drop from all) in
    let part = sorted_part all from count sorted in
    ap entries (same_map cell_name_cmp_total cell_name_cmp-IsAntisymmetric (from_entries es) (from_sorted es) (λ q.
    get-from_entries cell_name_cmp_total es q ∙ sym (get-from_sorted cell_name_cmp es q part)))
    ∙ entries-from_sorted cell_name_cmp es part

pub entries-part_of : (m : Cells) (from count : ℕ) → entries (part_of m from count) ≡ take count (drop from (entries m))
entries-part_of m from count = entries-of_part (entries m) from count (entries_sorted m)

-- the map of the entries of a map is the map
pub from_entries-entries : (m : Cells) → from_entries (entries m) ≡ m
from_entries-entries m = same_map cell_name_cmp_total cell_name_cmp-IsAntisymmetric (from_entries (entries m)) m (λ q.
    get-from_entries cell_name_cmp_total (entries m) q ∙ sym (get-entries m q))

-- ---- pages

-- a part of sorted cells of the schema is a page, if it has at most as many cells as a page may have
pub part_is_page : (s : Layout) (es : List NamedCell) (from count : ℕ) → All (IsCellOf s) es
    → T (is_sorted cell_name_cmp es) → count ≤ MAX_PAGE_CELLS → IsPage s (take count (drop from es))
part_is_page s es from count all sorted fits =
    let few : length (take count (drop from es)) ≤ count = rw (length-take count (drop from es)) (omega arith) in
    record {
      count_fits = omega (arith, few, fits);
      cells = All-take (IsCellOf s) count (drop from es) (All-drop (IsCellOf s) from es all);
      names_ascend = true_from_T _ (sorted_part es from count sorted);
    }

-- and so is one of the entries of a map
pub part_of_is_page : (s : Layout) (m : Cells) (from count : ℕ)
    → ((n : CellName) (c : Contribution) → get m n ≡ Some c → IsCellOf s (n, c)) → count ≤ MAX_PAGE_CELLS
    → IsPage s (take count (drop from (entries m)))
part_of_is_page s m from count cells fits =
    part_is_page s (entries m) from count (All-from_recursion (IsCellOf s) (entries m)
    (all_entries (IsCellOf s) m cells)) (entries_sorted m) fits
