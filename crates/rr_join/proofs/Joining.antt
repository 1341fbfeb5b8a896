-- Merging and joining: in any order, in any grouping, any number of times.
use Rattle.std.proofs.Common.{◌≡◌, Bool, true, false, cond, ◌&&◌, List, ◌++◌, refl, sym, ap, ◌∙◌, Ordering, Option, None}
use Rattle.std.specs.Cmp.{IsTotalOrder}
use Rattle.std.specs.FinMap.{FinMap, IsAntisymmetric, get, keys, same_map}
use Rattle.rr_join.specs.Maps.{greater, trimmed, merged, joined, IsHorizon}
use Rattle.rr_join.proofs.Greater.{greater_comm, greater_assoc, greater_itself}
use Rattle.rr_join.proofs.Lookups.{get-trimmed, get-merged, is_in-keys_merged}
use Rattle.rr_join.proofs.Horizons.{live_by_members, live-append, live-trimmed}

module _ {N V : Type 0} {R : N → N → Ordering} (o : IsTotalOrder R) (same : IsAntisymmetric R) {S : V → V → Ordering}
    (s : IsTotalOrder S) (alike : IsAntisymmetric S) where
  pub merged_comm : (m n : FinMap R V) → merged S m n ≡ merged S n m
  merged_comm m n = same_map o same _ _ (λ q. get-merged o same S m n q ∙ greater_comm s alike (get m q) (get n q)
      ∙ sym (get-merged o same S n m q))

  pub merged_assoc : (l m n : FinMap R V) → merged S (merged S l m) n ≡ merged S l (merged S m n)
  merged_assoc l m n = same_map o same _ _ (λ q.
      get-merged o same S (merged S l m) n q ∙ ap (λ x. greater S x (get n q)) (get-merged o same S l m q)
      ∙ greater_assoc s (get l q) (get m q) (get n q)
      ∙ sym (get-merged o same S l (merged S m n) q ∙ ap (greater S (get l q)) (get-merged o same S m n q)))

  pub merged_itself : (m : FinMap R V) → merged S m m ≡ m
  merged_itself m = same_map o same _ _ (λ q. get-merged o same S m m q ∙ greater_itself s (get m q))

  module _ {is_live : List N → N → Bool} {is_past : N → N → Bool} (h : IsHorizon is_live is_past) where
    pub get-joined : (m n : FinMap R V) (q : N) → get (joined S is_live m n) q
        ≡ cond (is_live (keys m) q && is_live (keys n) q) (greater S (get m q) (get n q)) None
    unfolding joined
    get-joined m n q =
        get-trimmed o same is_live (merged S m n) q
        ∙ (λ i. cond ((live_by_members o same h (keys (merged S m n)) (keys m ++ keys n) q
        (is_in-keys_merged o same S m n) ∙ live-append o same h (keys m) (keys n) q) i)
        (get-merged o same S m n q i) None)

    pub live-joined : (m n : FinMap R V) (q : N) → is_live (keys (joined S is_live m n)) q
        ≡ (is_live (keys m) q && is_live (keys n) q)
    unfolding joined
    live-joined m n q = live-trimmed o same h (merged S m n) q
        ∙ live_by_members o same h (keys (merged S m n)) (keys m ++ keys n) q (is_in-keys_merged o same S m n)
        ∙ live-append o same h (keys m) (keys n) q

    swapped : (a b : Bool) (x y : Option V) → cond (a && b) (greater S x y) None ≡ cond (b && a) (greater S y x) None
    swapped true true x y = greater_comm s alike x y
    swapped true false x y = refl
    swapped false true x y = refl
    swapped false false x y = refl

    pub joined_comm : (m n : FinMap R V) → joined S is_live m n ≡ joined S is_live n m
    joined_comm m n = same_map o same _ _ (λ q. get-joined m n q
        ∙ swapped (is_live (keys m) q) (is_live (keys n) q) (get m q) (get n q) ∙ sym (get-joined n m q))

    regrouped : (a b c : Bool) (x y z : Option V) → cond ((a && b) && c)
        (greater S (cond (a && b) (greater S x y) None) z) None
        ≡ cond (a && (b && c)) (greater S x (cond (b && c) (greater S y z) None)) None
    regrouped true true true x y z = greater_assoc s x y z
    regrouped true true false x y z = refl
    regrouped true false c x y z = refl
    regrouped false b c x y z = refl

    pub joined_assoc : (l m n : FinMap R V) → joined S is_live (joined S is_live l m) n
        ≡ joined S is_live l (joined S is_live m n)
    joined_assoc l m n = same_map o same _ _ (λ q.
        get-joined (joined S is_live l m) n q
        ∙ (λ i. cond (live-joined l m q i && is_live (keys n) q) (greater S (get-joined l m q i) (get n q)) None)
        ∙ regrouped (is_live (keys l) q) (is_live (keys m) q) (is_live (keys n) q) (get l q) (get m q) (get n q)
        ∙ sym (get-joined l (joined S is_live m n) q
        ∙ (λ i. cond (is_live (keys l) q && live-joined m n q i) (greater S (get l q) (get-joined m n q i)) None)))

    once : (a : Bool) (x : Option V) → cond (a && a) (greater S x x) None ≡ cond a x None
    once true x = greater_itself s x
    once false x = refl

    -- the join of a map with itself is what stays of it
    pub joined_itself : (m : FinMap R V) → joined S is_live m m ≡ trimmed is_live m
    joined_itself m = same_map o same _ _ (λ q. get-joined m m q ∙ once (is_live (keys m) q) (get m q)
        ∙ sym (get-trimmed o same is_live m q))

    settled : (a b : Bool) (x y : Option V) → cond (a && b) (greater S x (cond b y None)) None
        ≡ cond (a && b) (greater S x y) None
    settled true true x y = refl
    settled true false x y = refl
    settled false b x y = refl

    -- to trim first what is joined changes nothing
    pub joined-trimmed : (m n : FinMap R V) → joined S is_live m (trimmed is_live n) ≡ joined S is_live m n
    joined-trimmed m n = same_map o same _ _ (λ q.
        get-joined m (trimmed is_live n) q
        ∙ (λ i. cond (is_live (keys m) q && live-trimmed o same h n q i)
        (greater S (get m q) (get-trimmed o same is_live n q i)) None)
        ∙ settled (is_live (keys m) q) (is_live (keys n) q) (get m q) (get n q)
        ∙ sym (get-joined m n q))

kept_twice : {V : Type 0} (b : Bool) (x : Option V) → cond b (cond b x None) None ≡ cond b x None
kept_twice true x = refl
kept_twice false x = refl

-- to trim again changes nothing
pub trimmed-trimmed : {N V : Type 0} {R : N → N → Ordering} (o : IsTotalOrder R) (same : IsAntisymmetric R)
    {is_live : List N → N → Bool} {is_past : N → N → Bool} (h : IsHorizon is_live is_past) (m : FinMap R V)
    → trimmed is_live (trimmed is_live m) ≡ trimmed is_live m
trimmed-trimmed o same {is_live = is_live} h m = same_map o same _ _ (λ q.
    get-trimmed o same is_live (trimmed is_live m) q
    ∙ (λ i. cond (live-trimmed o same h m q i) (get-trimmed o same is_live m q i) None)
    ∙ kept_twice (is_live (keys m) q) (get m q) ∙ sym (get-trimmed o same is_live m q))

-- what is joined is trimmed
pub trimmed-joined : {N V : Type 0} {R : N → N → Ordering} (o : IsTotalOrder R) (same : IsAntisymmetric R)
    {is_live : List N → N → Bool} {is_past : N → N → Bool} (h : IsHorizon is_live is_past) (S : V → V → Ordering)
    (m n : FinMap R V) → trimmed is_live (joined S is_live m n) ≡ joined S is_live m n
unfolding joined
trimmed-joined o same h S m n = trimmed-trimmed o same h (merged S m n)
