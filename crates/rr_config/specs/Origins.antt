-- The range of origins that a node may write under, and which of them comes next.
use Rattle.std.specs.Prelude.{ℕ, ◌<◌, ◌≤◌, Option, IfSome}
use Rattle.rr_config.specs.declared.origins.OriginRange.{OriginRange}

-- a range by its least and its greatest origin
pub record RangeView : Type 0 where
  pub first : ℕ
  pub last : ℕ

abbrev pub range_view : OriginRange → RangeView
range_view range = record { first = range.first; last = range.last }

-- an origin of the range that is above the last one, if there was one
pub record IsLeft (range : RangeView) (last : Option ℕ) (origin : ℕ) : Type 0 where
  pub at_least : range.first ≤ origin
  pub at_most : origin ≤ range.last
  pub above : IfSome last (λ used. used < origin)

-- the least of those that are left
pub record IsNext (range : RangeView) (last : Option ℕ) (origin : ℕ) : Type 0 where
  pub is_left : IsLeft range last origin
  pub is_least : (other : ℕ) → IsLeft range last other → origin ≤ other

-- none is left
abbrev pub IsSpent : RangeView → Option ℕ → Type 0
IsSpent range last = (origin : ℕ) → IsLeft range last origin → ⊥
