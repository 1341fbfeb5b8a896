-- The law of the keys that have a cell.
use Rattle.std.specs.Prelude.{◌≡◌, ◌⊎◌, ℕ, ◌≤◌, true, List, length, map, All, Contains, Option}
use Rattle.std.specs.FinMap.{entries}
use Rattle.std.specs.List.Sorted.{IsStrictlySortedBy}
use Rattle.std.specs.Ordering.{is_lt}
use Rattle.rr_text.specs.Bytes.{bytes_cmp}
use Rattle.rr_cells.specs.Cells.{Cells}
use Rattle.rr_cells.specs.CellBounds.{NamedCell}
use Rattle.rr_replica.specs.Keys.{is_behind, keys_after}

-- a key has a cell
abbrev pub HasCell : List NamedCell → List ℕ → Type 0
HasCell es key = Contains (map (λ e. e.0.key) es) key

-- these keys are the first, at most as many as are wanted, that have a cell and come after another key: they are
-- distinct and ascend, and such a key is missing only if as many as are wanted come before it
pub record AreFirstBehind (after : Option (List ℕ)) (count : ℕ) (es : List NamedCell) (keys : List (List ℕ))
    : Type 0 where
  pub ascend : IsStrictlySortedBy bytes_cmp keys
  pub each : All (λ key. HasCell es key × (is_behind after key ≡ true)) keys
  pub few : length keys ≤ count
  pub all : (key : List ℕ) → HasCell es key → is_behind after key ≡ true
      → Contains keys key ⊎ ((length keys ≡ count) × All (λ before. is_lt (bytes_cmp before key) ≡ true) keys)

-- the keys that are listed are these
abbrev pub ListedAreTheFirst : Type 0
ListedAreTheFirst =
    (m : Cells) (after : Option (List ℕ)) (count : ℕ)
    → AreFirstBehind after count (entries m) (keys_after after count (entries m))
