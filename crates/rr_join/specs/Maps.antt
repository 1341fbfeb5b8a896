-- Finite maps whose values are ordered: merged key by key, and trimmed to their live keys.
use Rattle.std.specs.Prelude.{◌≡◌, Bool, true, false, not, Option, Some, None, List, [], ◌∷◌, ◌++◌}
use Rattle.std.specs.declared.cmp.Ordering.{Ordering}
use Rattle.std.specs.Ordering.{ord_max}
use Rattle.std.specs.List.{list_all}
use Rattle.std.specs.FinMap.{FinMap, empty, get, insert, keys, retain_keys}

-- the greater of two values, or the only one there is
abbrev pub greater : {V : Type 0} → (V → V → Ordering) → Option V → Option V → Option V
greater S None b = b
greater S (Some a) None = Some a
greater S (Some a) (Some b) = Some (ord_max S a b)

-- the greatest of a list, if it has an element
abbrev pub greatest : {V : Type 0} → (V → V → Ordering) → List V → Option V
greatest S [] = None
greatest S (x ∷ xs) = greater S (Some x) (greatest S xs)

module _ {N V : Type 0} {R : N → N → Ordering} where
  -- the map with the value at the key, if there is one
  abbrev pub insert_some : FinMap R V → N → Option V → FinMap R V
  insert_some m n None = m
  insert_some m n (Some v) = insert m n v

  -- the map that has at each of these keys the value that f gives it, if any
  unfoldable pub map_of : List N → (N → Option V) → FinMap R V
  map_of [] f = empty
  map_of (n ∷ ns) f = insert_some (map_of ns f) n (f n)

  -- the part of the map whose keys are live among all its keys
  unfoldable pub trimmed : (List N → N → Bool) → FinMap R V → FinMap R V
  trimmed is_live m = retain_keys m (is_live (keys m))

  -- the greater of the values at each key of either map
  unfoldable pub merged : (V → V → Ordering) → FinMap R V → FinMap R V → FinMap R V
  merged S m n = map_of (keys m ++ keys n) (λ q. greater S (get m q) (get n q))

  -- the two merged, and then trimmed
  unfoldable pub joined : (V → V → Ordering) → (List N → N → Bool) → FinMap R V → FinMap R V → FinMap R V
  joined S is_live m n = trimmed is_live (merged S m n)

-- the set of these keys
abbrev pub set_of : {N : Type 0} {R : N → N → Ordering} → List N → FinMap R (Unit {0})
set_of {R = R} ns = map_of {R = R} ns (λ n. Some tt)

-- a key is live among others if none of them puts it past the horizon, which is an order that has nothing before itself
pub record IsHorizon {N : Type 0} (is_live : List N → N → Bool) (is_past : N → N → Bool) : Type 0 where
  pub says : (ns : List N) (n : N) → is_live ns n ≡ list_all (λ m. not (is_past m n)) ns
  pub itself : (n : N) → is_past n n ≡ false
  pub further : (l m n : N) → is_past l m ≡ true → is_past m n ≡ true → is_past l n ≡ true
