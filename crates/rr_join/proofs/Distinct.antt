-- Lists in which no element stands twice.
use Rattle.std.proofs.Common.{◌≡◌, Bool, true, false, cond, T, List, [], ◌∷◌, map, refl, Ordering, Less, Equal, Greater}
use Rattle.std.specs.List.{filter}
use Rattle.std.specs.Ordering.{eq_by_cmp, is_lt, is_eq}
use Rattle.std.specs.FinMap.{FinMap, keys, entries, entries_sorted, is_sorted}
use Rattle.std.specs.FinMap.Entries.{below_all}
use Rattle.std.proofs.lemmas.Bool.{or_from, or_parts}
use Rattle.rr_join.proofs.Booleans.{first_T, second_T}
use Rattle.rr_join.proofs.Members.{is_in}

pub data IsDistinct {K : Type 0} (R : K → K → Ordering) : List K → Type 0 where
  none : IsDistinct R []
  more : {k : K} {ks : List K} → is_in R ks k ≡ false → IsDistinct R ks → IsDistinct R (k ∷ ks)

less_not_equal : (r : Ordering) → T (is_lt r) → is_eq r ≡ false
less_not_equal Less h = refl
less_not_equal Equal h = absurd h
less_not_equal Greater h = refl

module _ {K X : Type 0} (R : K → K → Ordering) where
  below_not_in : (x : K) (es : List (K × X)) → T (below_all R x es) → is_in R (map (λ e. e.0) es) x ≡ false
  below_not_in x [] h = refl
  below_not_in x (e ∷ es) h = or_from (eq_by_cmp R x e.0) _ (less_not_equal (R x e.0) (first_T _ _ h))
      (below_not_in x es (second_T (is_lt (R x e.0)) _ h))

  sorted_distinct : (es : List (K × X)) → T (is_sorted R es) → IsDistinct R (map (λ e. e.0) es)
  sorted_distinct [] h = none
  sorted_distinct (e ∷ es) h = more (below_not_in e.0 es (first_T _ _ h))
      (sorted_distinct es (second_T (below_all R e.0 es) _ h))

pub keys_distinct : {K X : Type 0} {R : K → K → Ordering} (m : FinMap R X) → IsDistinct R (keys m)
keys_distinct {R = R} m = sorted_distinct R (entries m) (entries_sorted m)

module _ {K : Type 0} (R : K → K → Ordering) where
  not_in_filter : (test : K → Bool) (q : K) (ks : List K) → is_in R ks q ≡ false → is_in R (filter test ks) q ≡ false
  not_in_filter test q [] h = refl
  not_in_filter test q (k ∷ ks) h =
      let apart = or_parts (eq_by_cmp R q k) (is_in R ks q) h in
      let rest = not_in_filter test q ks apart.1 in
      elim (test k) as (λ b. is_in R (cond b (k ∷ filter test ks) (filter test ks)) q ≡ false) [
        | true ↦ or_from (eq_by_cmp R q k) _ apart.0 rest
        | false ↦ rest
      ]

  pub filter_distinct : (test : K → Bool) (ks : List K) → IsDistinct R ks → IsDistinct R (filter test ks)
  filter_distinct test [] d = none
  filter_distinct test (k ∷ ks) (more apart d) = elim
      (test k) as (λ b. IsDistinct R (cond b (k ∷ filter test ks) (filter test ks))) [
        | true ↦ more (not_in_filter test k ks apart) (filter_distinct test ks d)
        | false ↦ filter_distinct test ks d
      ]
