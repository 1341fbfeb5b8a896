-- The laws of merging and joining, for keys and values that tie only if they are equal.
use Rattle.std.specs.Prelude.{◌≡◌, Bool, List}
use Rattle.std.specs.declared.cmp.Ordering.{Ordering}
use Rattle.std.specs.FinMap.{FinMap, IsAntisymmetric}
use Rattle.rr_join.specs.Maps.{IsHorizon, trimmed, merged, joined}

module _ {N V : Type 0} (R : N → N → Ordering) (S : V → V → Ordering) where
  abbrev pub MergeIsCommutative : Type 0
  MergeIsCommutative = IsAntisymmetric R → IsAntisymmetric S → (m n : FinMap R V) → merged S m n ≡ merged S n m

  abbrev pub MergeIsAssociative : Type 0
  MergeIsAssociative = IsAntisymmetric R → IsAntisymmetric S → (l m n : FinMap R V)
      → merged S (merged S l m) n ≡ merged S l (merged S m n)

  abbrev pub MergeIsIdempotent : Type 0
  MergeIsIdempotent = IsAntisymmetric R → IsAntisymmetric S → (m : FinMap R V) → merged S m m ≡ m

  abbrev pub JoinIsCommutative : Type 0
  JoinIsCommutative = (is_live : List N → N → Bool) (is_past : N → N → Bool) → IsHorizon is_live is_past
      → IsAntisymmetric R → IsAntisymmetric S → (m n : FinMap R V) → joined S is_live m n ≡ joined S is_live n m

  abbrev pub JoinIsAssociative : Type 0
  JoinIsAssociative = (is_live : List N → N → Bool) (is_past : N → N → Bool) → IsHorizon is_live is_past
      → IsAntisymmetric R → IsAntisymmetric S → (l m n : FinMap R V)
      → joined S is_live (joined S is_live l m) n ≡ joined S is_live l (joined S is_live m n)

  -- the join of a map with itself only trims it
  abbrev pub JoinIsIdempotent : Type 0
  JoinIsIdempotent = (is_live : List N → N → Bool) (is_past : N → N → Bool) → IsHorizon is_live is_past
      → IsAntisymmetric R → IsAntisymmetric S → (m : FinMap R V) → joined S is_live m m ≡ trimmed is_live m

  -- and the map that a join gives is trimmed
  abbrev pub JoinIsTrimmed : Type 0
  JoinIsTrimmed = (is_live : List N → N → Bool) (is_past : N → N → Bool) → IsHorizon is_live is_past → IsAntisymmetric R
      → (m n : FinMap R V) → trimmed is_live (joined S is_live m n) ≡ joined S is_live m n
