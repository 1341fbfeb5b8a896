-- Cells in order, one after the other from an offset on.
use Rattle.std.proofs.Common.{◌≡◌, ℕ, zero, suc, ◌+◌, ◌≤◌, true, false, cond, T, List, [], ◌∷◌, ◌++◌, map, take, drop, length, slice_get, unwrap_or, refl, sym, ap, ◌∙◌, subst, arith, Some, None, Ordering, Less, Equal, Greater}
use Rattle.std.specs.List.{AllByRecursion, find}
use Rattle.std.specs.Cmp.{tied_itself}
use Rattle.std.specs.Ordering.{is_lt, ordering_reverse}
use Rattle.std.specs.FinMap.{is_sorted}
use Rattle.std.specs.FinMap.Entries.{below_all}
use Rattle.std.proofs.lemmas.List.{length-drop}
use Rattle.rr_join.proofs.Booleans.{first_T, second_T, true_from_T}
use Rattle.rr_cells.specs.CellNames.{CellName, cell_name_cmp}
use Rattle.rr_cells.proofs.Orders.{cell_name_cmp_total}
use Rattle.rr_cells.specs.CellBounds.{NamedCell}
use Rattle.rr_replica.proofs.Counted.{past_end, take_all}
use Rattle.rr_replica.proofs.NextCell.{is_past, first_past}

-- of cells in order the first after one of them is the one behind it
pub next_of_sorted : (es : List NamedCell) (i : ℕ) (e : NamedCell) → T (is_sorted cell_name_cmp es)
    → slice_get es i ≡ Some e → find (is_past e.0) es ≡ slice_get es (i + 1)
next_of_sorted [] i e sorted at = absurd cc
next_of_sorted (x ∷ es) zero e sorted at =
    let same : x ≡ e = ap (λ o. unwrap_or o x) at in
    subst (λ y. find (is_past y.0) (x ∷ es) ≡ slice_get es 0) same
    (ap (λ r. cond (is_lt r) (Some x) (find (is_past x.0) es)) (tied_itself cell_name_cmp_total x.0)
    ∙ first_past x.0 es (all_above x.0 es (first_T _ _ sorted)))
  where
    all_above : (n : CellName) (fs : List NamedCell) → T (below_all cell_name_cmp n fs)
        → AllByRecursion (λ f. is_past n f ≡ true) fs
    all_above n [] below = tt
    all_above n (f ∷ fs) below = (
      true_from_T (is_past n f)
          (first_T (is_past n f) (below_all cell_name_cmp n fs) below),
      all_above n fs (second_T (is_past n f) (below_all cell_name_cmp n fs) below),
    )
next_of_sorted (x ∷ es) (suc i) e sorted at =
    ap (λ b. cond b (Some x) (find (is_past e.0) es))
    (not_past (below_at es i at (first_T (below_all cell_name_cmp x.0 es) _ sorted)))
    ∙ next_of_sorted es i e (second_T (below_all cell_name_cmp x.0 es) _ sorted) at
    ∙ ap (slice_get (x ∷ es)) (one_more i)
  where
    one_more : (k : ℕ) → suc (k + 1) ≡ suc k + 1
    one_more k = omega arith

    below_at : (fs : List NamedCell) (k : ℕ) → slice_get fs k ≡ Some e → T (below_all cell_name_cmp x.0 fs)
        → is_past x.0 e ≡ true
    below_at [] k at below = absurd cc
    below_at (f ∷ fs) zero at below = ap (λ o. is_past x.0 (unwrap_or o f)) (sym at)
        ∙ true_from_T (is_past x.0 f) (first_T (is_past x.0 f) (below_all cell_name_cmp x.0 fs) below)
    below_at (f ∷ fs) (suc k) at below = below_at fs k at
        (second_T (is_past x.0 f) (below_all cell_name_cmp x.0 fs) below)

    not_past : is_past x.0 e ≡ true → is_past e.0 x ≡ false
    not_past less = ap is_lt (cell_name_cmp_total.antisymm e.0 x.0) ∙ reversed (cell_name_cmp x.0 e.0) less
      where
        reversed : (r : Ordering) → is_lt r ≡ true → is_lt (ordering_reverse r) ≡ false
        reversed Less h = refl
        reversed Equal h = absurd cc
        reversed Greater h = absurd cc

-- one cell more of those from an offset on
pub taken_more : (es : List NamedCell) (from i : ℕ) (e : NamedCell) → slice_get es (from + i) ≡ Some e
    → take (i + 1) (drop from es) ≡ take i (drop from es) ++ e ∷ []
taken_more es zero i e at = from_start es i (ap (slice_get es) (from_zero i) ∙ at)
  where
    one_more : (k : ℕ) → suc k + 1 ≡ suc (k + 1)
    one_more k = omega arith

    from_zero : (k : ℕ) → k ≡ zero + k
    from_zero k = omega arith

    from_start : (fs : List NamedCell) (k : ℕ) → slice_get fs k ≡ Some e → take (k + 1) fs ≡ take k fs ++ e ∷ []
    from_start [] k at = absurd cc
    from_start (f ∷ fs) zero at = ap (λ o. unwrap_or o f ∷ []) at
    from_start (f ∷ fs) (suc k) at = ap (λ n. take n (f ∷ fs)) (one_more k) ∙ ap (λ l. f ∷ l) (from_start fs k at)
taken_more [] (suc from) i e at = absurd cc
taken_more (x ∷ es) (suc from) i e at = taken_more es from i e (ap (slice_get (x ∷ es)) (later from i) ∙ at)
  where
    later : (m n : ℕ) → suc (m + n) ≡ suc m + n
    later m n = omega arith

pub map-last : {X Y : Type 0} (f : X → Y) (xs : List X) (x : X) → map f (xs ++ x ∷ []) ≡ map f xs ++ f x ∷ []
map-last f [] x = refl
map-last f (y ∷ xs) x = ap (λ l. f y ∷ l) (map-last f xs x)

-- there are no more
pub taken_all : (es : List NamedCell) (from i count : ℕ) → slice_get es (from + i) ≡ None → i ≤ count
    → take i (drop from es) ≡ take count (drop from es)
taken_all es from i count at few =
    let past = past_end es (from + i) at in
    let left : length (drop from es) ≤ i = simp length-drop (omega arith) in
    take_all (drop from es) i left ∙ sym (take_all (drop from es) count (omega arith))
