-- The keys of a map with one key more, and what is added up over them.
use Rattle.std.proofs.Common.{◌≡◌, false, ◌||◌, List, [], ◌∷◌, map, refl, sym, ap, ◌∙◌, Ordering, Less, Equal, Greater, true≢false}
use Rattle.std.specs.Ordering.{is_eq}
use Rattle.std.specs.Cmp.{IsTotalOrder}
use Rattle.std.specs.FinMap.{FinMap, IsAntisymmetric, keys, entries, insert, entries-insert}
use Rattle.std.specs.FinMap.Entries.{put, by_order}
use Rattle.rr_join.proofs.Members.{is_in}

-- a key put into its place among others
pub inserted : {K : Type 0} → (K → K → Ordering) → K → List K → List K
inserted R k [] = k ∷ []
inserted R k (x ∷ xs) = by_order (R k x) (k ∷ x ∷ xs) (x ∷ xs) (x ∷ inserted R k xs)

module _ {K X : Type 0} {R : K → K → Ordering} where
  keys_put : (k : K) (v : X) (es : List (K × X)) → IsAntisymmetric R
      → map (λ e. e.0) (put R k v es) ≡ inserted R k (map (λ e. e.0) es)
  unfolding inserted
  keys_put k v [] same = refl
  keys_put k v (e ∷ es) same =
      elim (R k e.0) as (λ r. R k e.0 ≡ r → map (λ e. e.0)
      (by_order r ((k, v) ∷ e ∷ es) ((e.0, v) ∷ es) (e ∷ put R k v es))
      ≡ by_order r (k ∷ e.0 ∷ map (λ e. e.0) es) (e.0 ∷ map (λ e. e.0) es) (e.0 ∷ inserted R k (map (λ e. e.0) es))) [
        | Less ↦ λ _. refl
        | Equal ↦ λ _. refl
        | Greater ↦ λ _. ap (λ ks. e.0 ∷ ks) (keys_put k v es same)
      ] refl

  pub keys-insert : (o : IsTotalOrder R) (same : IsAntisymmetric R) (m : FinMap R X) (k : K) (v : X)
      → keys (insert m k v) ≡ inserted R k (keys m)
  keys-insert o same m k v = ap (map (λ e. e.0)) (entries-insert o m k v) ∙ keys_put k v (entries m) same

-- what is added up over a list by op is, with k put into its place, k's part and all that was before
module _ {K A : Type 0} (R : K → K → Ordering) (op : A → A → A) (part : K → A) (total : List K → A)
    (more : (k : K) (ks : List K) → total (k ∷ ks) ≡ op (part k) (total ks))
    (swap : (x y z : A) → op x (op y z) ≡ op y (op x z)) where
  pub total-inserted : (k : K) (ks : List K) → is_in R ks k ≡ false → total (inserted R k ks) ≡ op (part k) (total ks)
  unfolding inserted
  total-inserted k [] none = more k []
  total-inserted k (x ∷ xs) none =
      elim (R k x) as (λ r. (is_eq r || is_in R xs k) ≡ false
      → total (by_order r (k ∷ x ∷ xs) (x ∷ xs) (x ∷ inserted R k xs)) ≡ op (part k) (total (x ∷ xs))) [
        | Less ↦ λ h. more k (x ∷ xs)
        | Equal ↦ λ h. absurd (true≢false h)
        | Greater ↦ λ h. more x (inserted R k xs) ∙ ap (op (part x)) (total-inserted k xs h)
            ∙ swap (part x) (part k) (total xs) ∙ ap (op (part k)) (sym (more x xs))
      ] none
