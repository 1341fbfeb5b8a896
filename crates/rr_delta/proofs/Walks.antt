-- Walks along names that strictly ascend.
use Rattle.std.proofs.Common.{◌≡◌, ℕ, zero, suc, Bool, true, false, cond, T, List, [], ◌∷◌, map, take, drop, slice_get, unwrap_or, refl, sym, ap, ◌∙◌, subst, Option, Some, None, Ordering, Less, Equal, Greater}
use Rattle.std.specs.Cmp.{tied_itself}
use Rattle.std.specs.List as List
use Rattle.std.specs.List.{filter}
use Rattle.std.specs.Ordering.{is_lt, ordering_reverse}
use Rattle.std.specs.FinMap.{is_sorted}
use Rattle.std.specs.FinMap.Entries.{below_all}
use Rattle.rr_join.proofs.Booleans.{first_T, second_T, true_from_T, T_and, T_from_true}
use Rattle.rr_cells.specs.CellNames.{CellName, cell_name_cmp}
use Rattle.rr_cells.proofs.Orders.{cell_name_cmp_total}
use Rattle.rr_cells.specs.CellBounds.{NamedCell}
use Rattle.rr_cells.specs.Listing.{first_after}
use Rattle.rr_replica.proofs.NextCell.{is_past}
use Rattle.rr_delta.specs.Summaries.{cells_after, cells_from}
use Rattle.rr_delta.specs.Names.{named_version}

pub less_from : (r : Ordering) → is_lt r ≡ true → r ≡ Less
less_from Less h = refl
less_from Equal h = absurd cc
less_from Greater h = absurd cc

-- what is before another is not after it
pub not_back : (n m : CellName) → is_lt (cell_name_cmp n m) ≡ true → is_lt (cell_name_cmp m n) ≡ false
not_back n m h = ap is_lt (cell_name_cmp_total.antisymm m n) ∙ reversed (cell_name_cmp n m) h
  where
    reversed : (r : Ordering) → is_lt r ≡ true → is_lt (ordering_reverse r) ≡ false
    reversed Less h = refl
    reversed Equal h = absurd cc
    reversed Greater h = absurd cc

pub before_both : (l m n : CellName) → is_lt (cell_name_cmp l m) ≡ true → is_lt (cell_name_cmp m n) ≡ true
    → is_lt (cell_name_cmp l n) ≡ true
before_both l m n p q = ap is_lt (cell_name_cmp_total.trans l m n (less_from _ p) (less_from _ q))

module _ {X : Type 0} where
  -- what is below another is below all that this one is below
  pub lower : (n m : CellName) (es : List (CellName × X)) → is_lt (cell_name_cmp n m) ≡ true
      → T (below_all cell_name_cmp m es) → T (below_all cell_name_cmp n es)
  lower n m [] lt h = tt
  lower n m (e ∷ es) lt h =
      T_and (is_lt (cell_name_cmp n e.0)) (below_all cell_name_cmp n es)
      (T_from_true _ (before_both n m e.0 lt (true_from_T _
      (first_T (is_lt (cell_name_cmp m e.0)) (below_all cell_name_cmp m es) h))))
      (lower n m es lt (second_T (is_lt (cell_name_cmp m e.0)) (below_all cell_name_cmp m es) h))

  pub below_filter : (test : CellName × X → Bool) (n : CellName) (es : List (CellName × X))
      → T (below_all cell_name_cmp n es) → T (below_all cell_name_cmp n (filter test es))
  below_filter test n [] h = tt
  below_filter test n (e ∷ es) h =
      let rest = below_filter test n es (second_T (is_lt (cell_name_cmp n e.0)) (below_all cell_name_cmp n es) h) in
      elim (test e) as (λ b. T (below_all cell_name_cmp n (cond b (e ∷ filter test es) (filter test es)))) [
        | true ↦ T_and (is_lt (cell_name_cmp n e.0)) (below_all cell_name_cmp n (filter test es))
            (first_T (is_lt (cell_name_cmp n e.0)) (below_all cell_name_cmp n es) h) rest
        | false ↦ rest
      ]

  pub sorted_filter : (test : CellName × X → Bool) (es : List (CellName × X)) → T (is_sorted cell_name_cmp es)
      → T (is_sorted cell_name_cmp (filter test es))
  sorted_filter test [] h = tt
  sorted_filter test (e ∷ es) h =
      let rest = sorted_filter test es (second_T (below_all cell_name_cmp e.0 es) (is_sorted cell_name_cmp es) h) in
      elim (test e) as (λ b. T (is_sorted cell_name_cmp (cond b (e ∷ filter test es) (filter test es)))) [
        | true ↦ T_and (below_all cell_name_cmp e.0 (filter test es)) (is_sorted cell_name_cmp (filter test es))
            (below_filter test e.0 es (first_T (below_all cell_name_cmp e.0 es) (is_sorted cell_name_cmp es) h)) rest
        | false ↦ rest
      ]

  pub sorted_drop : (n : ℕ) (es : List (CellName × X)) → T (is_sorted cell_name_cmp es)
      → T (is_sorted cell_name_cmp (drop n es))
  sorted_drop zero [] h = tt
  sorted_drop zero (e ∷ es) h = h
  sorted_drop (suc n) [] h = tt
  sorted_drop (suc n) (e ∷ es) h = sorted_drop n es
      (second_T (below_all cell_name_cmp e.0 es) (is_sorted cell_name_cmp es) h)

  below_take : (n : ℕ) (m : CellName) (es : List (CellName × X)) → T (below_all cell_name_cmp m es)
      → T (below_all cell_name_cmp m (take n es))
  below_take zero m [] h = tt
  below_take zero m (e ∷ es) h = tt
  below_take (suc n) m [] h = tt
  below_take (suc n) m (e ∷ es) h = T_and (is_lt (cell_name_cmp m e.0)) (below_all cell_name_cmp m (take n es))
      (first_T (is_lt (cell_name_cmp m e.0)) (below_all cell_name_cmp m es) h)
      (below_take n m es (second_T (is_lt (cell_name_cmp m e.0)) (below_all cell_name_cmp m es) h))

  pub sorted_take : (n : ℕ) (es : List (CellName × X)) → T (is_sorted cell_name_cmp es)
      → T (is_sorted cell_name_cmp (take n es))
  sorted_take zero [] h = tt
  sorted_take zero (e ∷ es) h = tt
  sorted_take (suc n) [] h = tt
  sorted_take (suc n) (e ∷ es) h = T_and (below_all cell_name_cmp e.0 (take n es)) (is_sorted cell_name_cmp (take n es))
      (below_take n e.0 es (first_T (below_all cell_name_cmp e.0 es) (is_sorted cell_name_cmp es) h))
      (sorted_take n es (second_T (below_all cell_name_cmp e.0 es) (is_sorted cell_name_cmp es) h))

below_versions : (n : CellName) (es : List NamedCell) → T (below_all cell_name_cmp n es)
    → T (below_all cell_name_cmp n (map named_version es))
below_versions n [] h = tt
below_versions n (e ∷ es) h = T_and (is_lt (cell_name_cmp n e.0)) (below_all cell_name_cmp n (map named_version es))
    (first_T (is_lt (cell_name_cmp n e.0)) (below_all cell_name_cmp n es) h)
    (below_versions n es (second_T (is_lt (cell_name_cmp n e.0)) (below_all cell_name_cmp n es) h))

pub sorted_versions : (es : List NamedCell) → T (is_sorted cell_name_cmp es)
    → T (is_sorted cell_name_cmp (map named_version es))
sorted_versions [] h = tt
sorted_versions (e ∷ es) h = T_and (below_all cell_name_cmp e.0 (map named_version es))
    (is_sorted cell_name_cmp (map named_version es))
    (below_versions e.0 es (first_T (below_all cell_name_cmp e.0 es) (is_sorted cell_name_cmp es) h))
    (sorted_versions es (second_T (below_all cell_name_cmp e.0 es) (is_sorted cell_name_cmp es) h))

pub sorted_after : (n : Option CellName) (es : List NamedCell) → T (is_sorted cell_name_cmp es)
    → T (is_sorted cell_name_cmp (cells_after n es))
sorted_after None es h = h
sorted_after (Some n) es h = sorted_filter (is_past n) es h

-- ---- cells after one of them

above_kept : (n : CellName) (es : List NamedCell) → T (below_all cell_name_cmp n es) → filter (is_past n) es ≡ es
above_kept n [] h = refl
above_kept n (e ∷ es) h =
    ap (λ b. cond b (e ∷ filter (is_past n) es) (filter (is_past n) es))
    (true_from_T (is_past n e) (first_T (is_past n e) (below_all cell_name_cmp n es) h))
    ∙ ap (λ l. e ∷ l) (above_kept n es (second_T (is_past n e) (below_all cell_name_cmp n es) h))

-- after the first one are the others
after_first : (x : NamedCell) (xs : List NamedCell) → T (is_sorted cell_name_cmp (x ∷ xs))
    → filter (is_past x.0) (x ∷ xs) ≡ xs
after_first x xs h =
    ap (λ r. cond (is_lt r) (x ∷ filter (is_past x.0) xs) (filter (is_past x.0) xs))
    (tied_itself cell_name_cmp_total x.0)
    ∙ above_kept x.0 xs (first_T (below_all cell_name_cmp x.0 xs) (is_sorted cell_name_cmp xs) h)

pub found_passes : (n : CellName) (es : List NamedCell) (y : NamedCell) → first_after n es ≡ Some y → is_past n y ≡ true
found_passes n [] y e = absurd cc
found_passes n (x ∷ xs) y e = elim (is_past n x) as
    (λ b. is_past n x ≡ b → cond b (Some x) (List.find (is_past n) xs) ≡ Some y → is_past n y ≡ true) [
      | true ↦ λ t f. subst (λ z. is_past n z ≡ true) (ap (λ o. unwrap_or o x) f) t
      | false ↦ λ t f. found_passes n xs y f
    ] refl e

-- a walk that goes on from a cell comes to those after it
pub walked_on : (n : CellName) (es : List NamedCell) → T (is_sorted cell_name_cmp es)
    → cells_from (first_after n es) es ≡ filter (is_past n) es
walked_on n [] h = refl
walked_on n (x ∷ xs) h = elim (is_past n x) as (λ b. is_past n x ≡ b
    → cells_from (cond b (Some x) (List.find (is_past n) xs)) (x ∷ xs)
    ≡ cond b (x ∷ filter (is_past n) xs) (filter (is_past n) xs)) [
      | true ↦ λ t. ap (λ l. x ∷ l) (after_first x xs h
          ∙ sym (above_kept n xs (lower n x.0 xs t (first_T (below_all cell_name_cmp x.0 xs)
          (is_sorted cell_name_cmp xs)
          h))))
      | false ↦ λ t. skipped t (List.find (is_past n) xs) refl
          ∙ walked_on n xs (second_T (below_all cell_name_cmp x.0 xs) (is_sorted cell_name_cmp xs) h)
    ] refl
  where
    not_after : (y : NamedCell) → is_past n x ≡ false → is_past n y ≡ true → is_past y.0 x ≡ false
    not_after y t u = elim (is_past y.0 x) as (λ b. is_past y.0 x ≡ b → b ≡ false) [
      | true ↦ λ v. sym (before_both n y.0 x.0 u v) ∙ t
      | false ↦ λ v. refl
    ] refl

    skipped : is_past n x ≡ false → (o : Option NamedCell) → List.find (is_past n) xs ≡ o
        → cells_from o (x ∷ xs) ≡ cells_from o xs
    skipped t None e = refl
    skipped t (Some y) e = ap (λ b. y ∷ cond b (x ∷ filter (is_past y.0) xs) (filter (is_past y.0) xs))
        (not_after y t (found_passes n xs y e))

-- a walk from an offset on comes to the cells from there on
pub walked_to : (i : ℕ) (es : List NamedCell) → T (is_sorted cell_name_cmp es)
    → cells_from (slice_get es i) es ≡ drop i es
walked_to zero [] h = refl
walked_to (suc i) [] h = refl
walked_to zero (x ∷ xs) h = ap (λ l. x ∷ l) (after_first x xs h)
walked_to (suc i) (x ∷ xs) h = skipped (slice_get xs i) refl
    ∙ walked_to i xs (second_T (below_all cell_name_cmp x.0 xs) (is_sorted cell_name_cmp xs) h)
  where
    above : (es : List NamedCell) (k : ℕ) (y : NamedCell) → T (below_all cell_name_cmp x.0 es) → slice_get es k ≡ Some y
        → is_past x.0 y ≡ true
    above [] k y below e = absurd cc
    above (f ∷ es) zero y below e = subst (λ z. is_past x.0 z ≡ true) (ap (λ o. unwrap_or o f) e)
        (true_from_T (is_past x.0 f) (first_T (is_past x.0 f) (below_all cell_name_cmp x.0 es) below))
    above (f ∷ es) (suc k) y below e = above es k y (second_T (is_past x.0 f) (below_all cell_name_cmp x.0 es) below) e

    skipped : (o : Option NamedCell) → slice_get xs i ≡ o → cells_from o (x ∷ xs) ≡ cells_from o xs
    skipped None e = refl
    skipped (Some y) e = ap (λ b. y ∷ cond b (x ∷ filter (is_past y.0) xs) (filter (is_past y.0) xs))
        (not_back x.0 y.0 (above xs i y (first_T (below_all cell_name_cmp x.0 xs) (is_sorted cell_name_cmp xs) h) e))
