-- The walk of a replica beside a summary.
use Rattle.std.proofs.Common.{◌≡◌, true, false, cond, T, List, [], ◌∷◌, ◌++◌, refl, sym, ap, ◌∙◌, append_assoc, Option, Some, None, Ordering, Less, Equal, Greater}
use Rattle.std.specs.List.{AllByRecursion, filter}
use Rattle.std.specs.Ordering.{eq_by_cmp, is_lt, is_eq, ordering_reverse}
use Rattle.std.specs.FinMap.{find, is_sorted}
use Rattle.std.specs.FinMap.Entries.{below_all}
use Rattle.rr_schema.specs.Schema.{Layout}
use Rattle.rr_join.proofs.Booleans.{first_T, second_T, true_from_T}
use Rattle.rr_cells.specs.CellNames.{CellName, cell_name_cmp}
use Rattle.rr_cells.proofs.Orders.{cell_name_cmp_total}
use Rattle.rr_cells.specs.CellBounds.{NamedCell, IsCellOf}
use Rattle.rr_cells.specs.Listing.{first_after}
use Rattle.rr_delta.specs.Names.{NamedVersion}
use Rattle.rr_delta.specs.Summaries.{cells_from}
use Rattle.rr_delta.specs.Difference.{is_newer_than, newer_cell, newer_cells, names_from, first_version}
use Rattle.rr_delta.proofs.HeldLemmas.{all_filtered}
use Rattle.rr_delta.proofs.Walks.{before_both, lower, found_passes, walked_on, sorted_filter}

-- ---- the names from one on

-- the first name that is not before a name is that name, if it is in the summary
module _ {X : Type 0} where
  pub none_below : (n : CellName) (vs : List (CellName × X)) → T (below_all cell_name_cmp n vs)
      → find cell_name_cmp n vs ≡ None
  none_below n [] h = refl
  none_below n (v ∷ vs) h =
      ap (λ b. cond b (Some v.1) (find cell_name_cmp n vs))
      (apart (cell_name_cmp n v.0) (true_from_T _ (first_T (is_lt (cell_name_cmp n v.0))
      (below_all cell_name_cmp n vs) h)))
      ∙ none_below n vs (second_T (is_lt (cell_name_cmp n v.0)) (below_all cell_name_cmp n vs) h)
    where
      apart : (r : Ordering) → is_lt r ≡ true → is_eq r ≡ false
      apart Less h = refl
      apart Equal h = absurd cc
      apart Greater h = refl

pub version_here : (n : CellName) (vs : List NamedVersion) → T (is_sorted cell_name_cmp vs)
    → first_version n (names_from n vs) ≡ find cell_name_cmp n vs
version_here n [] h = refl
version_here n (v ∷ vs) h = by_order (cell_name_cmp v.0 n) refl
    (version_here n vs (second_T (below_all cell_name_cmp v.0 vs) (is_sorted cell_name_cmp vs) h))
  where
    by_order : (r : Ordering) → cell_name_cmp v.0 n ≡ r → first_version n (names_from n vs) ≡ find cell_name_cmp n vs
        → first_version n (cond (is_lt (cell_name_cmp v.0 n)) (names_from n vs) (v ∷ vs))
        ≡ cond (eq_by_cmp cell_name_cmp n v.0) (Some v.1) (find cell_name_cmp n vs)
    by_order Less e rest =
        ap (λ r. first_version n (cond (is_lt r) (names_from n vs) (v ∷ vs))) e
        ∙ rest
        ∙ sym (ap (λ r. cond (is_eq r) (Some v.1) (find cell_name_cmp n vs))
        (cell_name_cmp_total.antisymm n v.0 ∙ ap ordering_reverse e))
    by_order Equal e rest =
        ap (λ r. first_version n (cond (is_lt r) (names_from n vs) (v ∷ vs))) e
        ∙ ap (λ r. cond (is_eq r) (Some v.1) None) e
        ∙ sym (ap (λ r. cond (is_eq r) (Some v.1) (find cell_name_cmp n vs))
        (cell_name_cmp_total.antisymm n v.0 ∙ ap ordering_reverse e))
    by_order Greater e rest =
        let back = cell_name_cmp_total.antisymm n v.0 ∙ ap ordering_reverse e in
        ap (λ r. first_version n (cond (is_lt r) (names_from n vs) (v ∷ vs))) e
        ∙ ap (λ r. cond (is_eq r) (Some v.1) None) e
        ∙ sym (ap (λ r. cond (is_eq r) (Some v.1) (find cell_name_cmp n vs)) back
        ∙ none_below n vs (lower n v.0 vs (ap is_lt back)
        (first_T (below_all cell_name_cmp v.0 vs) (is_sorted cell_name_cmp vs) h)))

names_further : (n m : CellName) (vs : List NamedVersion) → is_lt (cell_name_cmp n m) ≡ true
    → names_from m (names_from n vs) ≡ names_from m vs
names_further n m [] h = refl
names_further n m (v ∷ vs) h = elim (is_lt (cell_name_cmp v.0 n)) as
    (λ b. is_lt (cell_name_cmp v.0 n) ≡ b → names_from m (cond b (names_from n vs) (v ∷ vs)) ≡ names_from m (v ∷ vs)) [
      | true ↦ λ t. names_further n m vs h ∙ sym (ap (λ b. cond b (names_from m vs) (v ∷ vs)) (before_both v.0 n m t h))
      | false ↦ λ t. refl
    ] refl

-- names that are left of a summary, where a walk has come to a cell
pub AreLeft : Option NamedCell → List NamedVersion → List NamedVersion → Type 0
AreLeft None summary left = Unit {0}
AreLeft (Some e) summary left = names_from e.0 left ≡ names_from e.0 summary

pub left_at_start : (o : Option NamedCell) (summary : List NamedVersion) → AreLeft o summary summary
unfolding AreLeft
left_at_start None summary = tt
left_at_start (Some e) summary = refl

pub left_here : (e : NamedCell) (summary left : List NamedVersion) → AreLeft (Some e) summary left
    → names_from e.0 left ≡ names_from e.0 summary
unfolding AreLeft
left_here e summary left h = h

pub left_later : (e : NamedCell) (es : List NamedCell) (o : Option NamedCell) (summary left : List NamedVersion)
    → left ≡ names_from e.0 summary → o ≡ first_after e.0 es → AreLeft o summary left
unfolding AreLeft
left_later e es None summary left h is = tt
left_later e es (Some f) summary left h is = ap (names_from f.0) h
    ∙ names_further e.0 f.0 summary (found_passes e.0 es f (sym is))

-- ---- the cells so far

pub newer_first : (summary : List NamedVersion) (e : NamedCell) (es : List NamedCell)
    → newer_cells summary (e ∷ es) ≡ newer_cell (find cell_name_cmp e.0 summary) e ++ newer_cells summary es
unfolding newer_cells
newer_first summary e es = elim (is_newer_than (find cell_name_cmp e.0 summary) e.1.version) as
    (λ b. cond b (e ∷ newer_cells summary es) (newer_cells summary es) ≡ cond b (e ∷ []) [] ++ newer_cells summary es) [
      | true ↦ refl
      | false ↦ refl
    ]

-- the walk goes on to the next cell
pub goes_on : (summary : List NamedVersion) (es prefix more : List NamedCell) (e : NamedCell) (o : Option NamedCell)
    (left : List NamedVersion) → T (is_sorted cell_name_cmp summary) → T (is_sorted cell_name_cmp es)
    → left ≡ names_from e.0 summary → o ≡ first_after e.0 es
    → more ≡ prefix ++ newer_cell (first_version e.0 left) e
    → more ++ newer_cells summary (cells_from o es) ≡ prefix ++ newer_cells summary (cells_from (Some e) es)
goes_on summary es prefix more e o left sorted ascend names next added =
    let known = ap (first_version e.0) names ∙ version_here e.0 summary sorted in
    let rest = ap (λ p. cells_from p es) next ∙ walked_on e.0 es ascend in
    (λ i. (added ∙ ap (λ k. prefix ++ newer_cell k e) known) i ++ newer_cells summary (rest i))
    ∙ append_assoc prefix (newer_cell (find cell_name_cmp e.0 summary) e)
    (newer_cells summary (filter (λ f. is_lt (cell_name_cmp e.0 f.0)) es))
    ∙ ap (λ l. prefix ++ l) (sym (newer_first summary e (filter (λ f. is_lt (cell_name_cmp e.0 f.0)) es)))

-- ---- the whole

pub newer_sorted : (summary : List NamedVersion) (es : List NamedCell) → T (is_sorted cell_name_cmp es)
    → T (is_sorted cell_name_cmp (newer_cells summary es))
unfolding newer_cells
newer_sorted summary es h = sorted_filter (λ e. is_newer_than (find cell_name_cmp e.0 summary) e.1.version) es h

pub newer_held : (s : Layout) (summary : List NamedVersion) (es : List NamedCell) → AllByRecursion (IsCellOf s) es
    → AllByRecursion (IsCellOf s) (newer_cells summary es)
unfolding newer_cells
newer_held s summary es all = all_filtered (IsCellOf s)
    (λ e. is_newer_than (find cell_name_cmp e.0 summary) e.1.version) es all

pub newer_none : (summary : List NamedVersion) → newer_cells summary [] ≡ []
unfolding newer_cells
newer_none summary = refl
