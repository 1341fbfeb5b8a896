-- What a map has at each name.
use Rattle.std.proofs.Common.{◌≡◌, Bool, true, false, cond, ◌||◌, List, [], ◌∷◌, ◌++◌, refl, sym, ap, ◌∙◌, subst, Ordering, Option, Some, None, is_some}
use Rattle.std.specs.Ordering.{eq_by_cmp}
use Rattle.std.specs.Cmp.{IsTotalOrder}
use Rattle.std.specs.FinMap.{FinMap, IsAntisymmetric, get, keys, contains_key-keys, get-empty, get-insert, get-retain_keys}
use Rattle.rr_join.specs.Maps.{greater, insert_some, map_of, set_of, trimmed, merged}
use Rattle.rr_join.proofs.Members.{is_in, same_from_tie, tie_itself, is_in-append}

-- what a set has at a name: whether the name is in it
abbrev pub marked : Bool → Option (Unit {0})
marked b = cond b (Some tt) None

pub is_some-marked : (b : Bool) → is_some (marked b) ≡ b
is_some-marked true = refl
is_some-marked false = refl

pub marked-is_some : (x : Option (Unit {0})) → x ≡ marked (is_some x)
marked-is_some None = refl
marked-is_some (Some u) = refl

none_either_way : (V : Type 0) (b : Bool) → ◌≡◌ {A = Option V} (cond b None None) None
none_either_way V true = refl
none_either_way V false = refl

some_greater : {V : Type 0} (S : V → V → Ordering) (x y : Option V) → is_some (greater S x y) ≡ (is_some x || is_some y)
some_greater S None y = refl
some_greater S (Some a) None = refl
some_greater S (Some a) (Some b) = refl

module _ {N V : Type 0} {R : N → N → Ordering} (o : IsTotalOrder R) (same : IsAntisymmetric R) where
  pub is_in-keys : (m : FinMap R V) (q : N) → is_in R (keys m) q ≡ is_some (get m q)
  is_in-keys m q = sym (contains_key-keys m q)

  -- ---- a map that is made from names

  at_same : (m : FinMap R V) (n : N) (v : Option V) (b : Bool) → get m n ≡ cond b v None → get (insert_some m n v) n ≡ v
  at_same m n None b h = h ∙ none_either_way V b
  at_same m n (Some v) b h = get-insert o m n v n ∙ ap (λ t. cond t (Some v) (get m n)) (tie_itself o same n)

  at_other : (m : FinMap R V) (n : N) (v : Option V) (q : N) → eq_by_cmp R q n ≡ false
      → get (insert_some m n v) q ≡ get m q
  at_other m n None q e = refl
  at_other m n (Some v) q e = get-insert o m n v q ∙ ap (λ t. cond t (Some v) (get m q)) e

  pub get-map_of : (ns : List N) (f : N → Option V) (q : N)
      → get (map_of {R = R} ns f) q ≡ cond (is_in R ns q) (f q) None
  unfolding map_of
  get-map_of [] f q = get-empty R q
  get-map_of (n ∷ ns) f q =
      elim (eq_by_cmp R q n) as (λ t. eq_by_cmp R q n ≡ t
      → get (insert_some (map_of {R = R} ns f) n (f n)) q ≡ cond (t || is_in R ns q) (f q) None) [
        | true ↦ λ t. subst (λ x. get (insert_some (map_of {R = R} ns f) n (f n)) x ≡ f x)
            (sym (same_from_tie o same q n t)) (at_same (map_of ns f) n (f n) (is_in R ns n) (get-map_of ns f n))
        | false ↦ λ t. at_other (map_of ns f) n (f n) q t ∙ get-map_of ns f q
      ] refl

  -- the same, where f gives nothing at any other name
  pub get-map_of_all : (ns : List N) (f : N → Option V) → ((q : N) → is_some (f q) ≡ true → is_in R ns q ≡ true)
      → (q : N) → get (map_of {R = R} ns f) q ≡ f q
  get-map_of_all ns f all q =
      elim (f q) as (λ v. f q ≡ v → get (map_of {R = R} ns f) q ≡ v) [
        | None ↦ λ e. get-map_of ns f q ∙ ap (λ v. cond (is_in R ns q) v None) e ∙ none_either_way V (is_in R ns q)
        | Some v ↦ λ e. get-map_of ns f q ∙ ap (λ b. cond b (f q) None) (all q (ap is_some e)) ∙ e
      ] refl

  -- ---- trimmed and merged maps

  pub get-trimmed : (is_live : List N → N → Bool) (m : FinMap R V) (q : N)
      → get (trimmed is_live m) q ≡ cond (is_live (keys m) q) (get m q) None
  unfolding trimmed
  get-trimmed is_live m q = get-retain_keys m (is_live (keys m)) q (λ x e. ap (is_live (keys m)) (sym (same q x e)))

  pub get-merged : (S : V → V → Ordering) (m n : FinMap R V) (q : N)
      → get (merged S m n) q ≡ greater S (get m q) (get n q)
  unfolding merged
  get-merged S m n = get-map_of_all (keys m ++ keys n) (λ q. greater S (get m q) (get n q))
      (λ q e. is_in-append o same (keys m) (keys n) q ∙ (λ i. is_in-keys m q i || is_in-keys n q i)
      ∙ sym (some_greater S (get m q) (get n q)) ∙ e)

  pub is_in-keys_merged : (S : V → V → Ordering) (m n : FinMap R V) (q : N)
      → is_in R (keys (merged S m n)) q ≡ is_in R (keys m ++ keys n) q
  is_in-keys_merged S m n q =
      is_in-keys (merged S m n) q ∙ ap is_some (get-merged S m n q) ∙ some_greater S (get m q) (get n q)
      ∙ sym (is_in-append o same (keys m) (keys n) q ∙ (λ i. is_in-keys m q i || is_in-keys n q i))

-- a set of names holds these names
pub is_in-set_of : {N : Type 0} {R : N → N → Ordering} (o : IsTotalOrder R) (same : IsAntisymmetric R) (ns : List N)
    (q : N) → is_in R (keys (set_of {R = R} ns)) q ≡ is_in R ns q
is_in-set_of {R = R} o same ns q = is_in-keys o same (set_of {R = R} ns) q
    ∙ ap is_some (get-map_of o same ns (λ _. Some tt) q) ∙ is_some-marked (is_in R ns q)
