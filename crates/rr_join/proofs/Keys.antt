-- The keys and entries of a map: of a part of it, and by what it has at each key.
use Rattle.std.proofs.Common.{◌≡◌, Bool, true, false, cond, ◌&&◌, ◌||◌, T, List, [], ◌∷◌, map, refl, sym, ap, ◌∙◌, subst, Ordering, Equal, Option, Some, None, is_some}
use Rattle.std.specs.List.{filter}
use Rattle.std.specs.Option.{unwrap_or}
use Rattle.std.specs.Ordering.{eq_by_cmp, is_lt}
use Rattle.std.specs.Cmp.{IsTotalOrder}
use Rattle.std.specs.FinMap.{FinMap, IsAntisymmetric, get, keys, entries, entries_sorted, retain_keys, get-retain_keys, from_sorted, entries-from_sorted, get-from_sorted, get-entries, find, is_sorted, same_map}
use Rattle.std.specs.FinMap.Entries.{below_all, where_key, is_sorted-where_key, find-where_key}
use Rattle.rr_join.proofs.Members.{is_in, same_from_tie}
use Rattle.rr_join.proofs.Lookups.{is_in-keys, marked, marked-is_some}

-- ---- the keys that pass a test

filter-keys : {K X : Type 0} (test : K → Bool) (es : List (K × X))
    → map (λ e. e.0) (filter (λ e. test e.0) es) ≡ filter test (map (λ e. e.0) es)
filter-keys test [] = refl
filter-keys test (e ∷ es) = elim (test e.0) as (λ b. map (λ e. e.0)
    (cond b (e ∷ filter (λ e. test e.0) es) (filter (λ e. test e.0) es))
    ≡ cond b (e.0 ∷ filter test (map (λ e. e.0) es)) (filter test (map (λ e. e.0) es))) [
      | true ↦ ap (λ ks. e.0 ∷ ks) (filter-keys test es)
      | false ↦ filter-keys test es
    ]

module _ {K X : Type 0} {R : K → K → Ordering} (o : IsTotalOrder R) (same : IsAntisymmetric R) where
  pub entries-retain : (m : FinMap R X) (test : K → Bool)
      → entries (retain_keys m test) ≡ filter (λ e. test e.0) (entries m)
  entries-retain m test =
      let alike = λ (q x : K) (e : R q x ≡ Equal). ap test (sym (same q x e)) in
      let sorted = is_sorted-where_key R test (entries m) (entries_sorted m) in
      ap entries (same_map o same (retain_keys m test) (from_sorted (where_key R test (entries m))) (λ q.
      get-retain_keys m test q (alike q) ∙ ap (λ v. cond (test q) v None) (get-entries m q)
      ∙ sym (get-from_sorted R (where_key R test (entries m)) q sorted
      ∙ find-where_key R test q (alike q) (entries m))))
      ∙ entries-from_sorted R (where_key R test (entries m)) sorted

  pub keys-retain : (m : FinMap R X) (test : K → Bool) → keys (retain_keys m test) ≡ filter test (keys m)
  keys-retain m test = ap (map (λ e. e.0)) (entries-retain m test) ∙ filter-keys test (entries m)

-- ---- the entries of a map, read from its keys

-- each key with what c gives it
abbrev paired : {K Y : Type 0} → (K → Y) → List K → List (K × Y)
paired c ks = map (λ k. (k, c k)) ks

module _ {K X Y : Type 0} (R : K → K → Ordering) (c : K → Y) where
  below-paired : (x : K) (es : List (K × X)) → below_all R x (paired c (map (λ e. e.0) es)) ≡ below_all R x es
  below-paired x [] = refl
  below-paired x (e ∷ es) = ap (λ b. is_lt (R x e.0) && b) (below-paired x es)

  is_sorted-paired : (es : List (K × X)) → is_sorted R (paired c (map (λ e. e.0) es)) ≡ is_sorted R es
  is_sorted-paired [] = refl
  is_sorted-paired (e ∷ es) = λ i. below-paired e.0 es i && is_sorted-paired es i

  paired_sorted : (m : FinMap R X) → T (is_sorted R (paired c (keys m)))
  paired_sorted m = subst T (sym (is_sorted-paired (entries m))) (entries_sorted m)

module _ {K Y : Type 0} (R : K → K → Ordering) (o : IsTotalOrder R) (same : IsAntisymmetric R) (c : K → Y) where
  keys-paired : (ks : List K) → map {B = K} (λ e. e.0) (paired c ks) ≡ ks
  keys-paired [] = refl
  keys-paired (k ∷ ks) = ap (λ l. k ∷ l) (keys-paired ks)

  find-paired : (q : K) (ks : List K) → find R q (paired c ks) ≡ cond (is_in R ks q) (Some (c q)) None
  find-paired q [] = refl
  find-paired q (k ∷ ks) = elim (eq_by_cmp R q k) as
      (λ t. eq_by_cmp R q k ≡ t → cond t (Some (c k)) (find R q (paired c ks))
      ≡ cond (t || is_in R ks q) (Some (c q)) None) [
        | true ↦ λ t. ap (λ x. Some (c x)) (sym (same_from_tie o same q k t))
        | false ↦ λ t. find-paired q ks
      ] refl

read_back : {X : Type 0} (x : Option X) (d : X) → cond (is_some x) (Some (unwrap_or x d)) None ≡ x
read_back None d = refl
read_back (Some v) d = refl

pub entries_by_keys : {K X : Type 0} {R : K → K → Ordering} → IsTotalOrder R → IsAntisymmetric R
    → (m : FinMap R X) (d : X) → entries m ≡ map (λ k. (k, unwrap_or (get m k) d)) (keys m)
entries_by_keys {K} {X} {R} o same m d =
    let c : K → X = λ k. unwrap_or (get m k) d in
    let sorted = paired_sorted R c m in
    sym (ap entries (same_map o same (from_sorted (paired c (keys m))) m (λ q.
    get-from_sorted R (paired c (keys m)) q sorted ∙ find-paired R o same c q (keys m)
    ∙ ap (λ b. cond b (Some (c q)) None) (is_in-keys o same m q) ∙ read_back (get m q) d))
    ) ∙ entries-from_sorted R (paired c (keys m)) sorted

-- ---- maps of any values that hold the same names

module _ {K X : Type 0} (R : K → K → Ordering) where
  key_set : FinMap R X → FinMap R (Unit {0})
  key_set m = from_sorted (paired (λ _. tt) (keys m))

  keys-key_set : (o : IsTotalOrder R) (same : IsAntisymmetric R) (m : FinMap R X) → keys (key_set m) ≡ keys m
  unfolding key_set
  keys-key_set o same m = ap (map (λ e. e.0)) (entries-from_sorted R (paired (λ _. tt) (keys m))
      (paired_sorted R (λ _. tt) m)) ∙ keys-paired R o same (λ _. tt) (keys m)

-- they list them alike
pub same_keys : {N V W : Type 0} {R : N → N → Ordering} → IsTotalOrder R → IsAntisymmetric R
    → (m : FinMap R V) (n : FinMap R W) → ((q : N) → is_in R (keys m) q ≡ is_in R (keys n) q) → keys m ≡ keys n
same_keys {N} {R = R} o same m n is =
    let in_set = λ (b : FinMap R (Unit {0})) (q : N). marked-is_some (get b q)
    ∙ ap marked (sym (is_in-keys o same b q)) in
    sym (keys-key_set R o same m)
    ∙ ap keys (same_map o same (key_set R m) (key_set R n) (λ q.
    in_set (key_set R m) q
    ∙ ap marked (ap (λ ks. is_in R ks q) (keys-key_set R o same m) ∙ is q
    ∙ ap (λ ks. is_in R ks q) (sym (keys-key_set R o same n)))
    ∙ sym (in_set (key_set R n) q)))
    ∙ keys-key_set R o same n
