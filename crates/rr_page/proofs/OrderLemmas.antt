-- Cells of which each name is greater than the one before are sorted by their names, and the other way
-- round.
use Rattle.std.proofs.Common.{◌≡◌, Bool, true, ◌&&◌, List, [], ◌∷◌, None, Some, Option, refl, Ordering, Less, Equal, Greater}
use Rattle.std.specs.FinMap.{is_sorted}
use Rattle.std.specs.FinMap.Entries.{below_all}
use Rattle.std.specs.Ordering.{is_lt}
use Rattle.rr_join.proofs.Booleans.{and_first, and_second}
use Rattle.rr_cells.specs.CellNames.{CellName, cell_name_cmp}
use Rattle.rr_cells.proofs.Orders.{cell_name_cmp_total}
use Rattle.rr_cells.specs.CellBounds.{NamedCell}
use Rattle.rr_page.specs.PageReading.{is_after}

-- whether each name is greater than the one before it
abbrev pub is_rising : Option CellName → List NamedCell → Bool
is_rising before [] = true
is_rising before (e ∷ es) = is_after before e.0 && is_rising (Some e.0) es

less_from : (o : Ordering) → is_lt o ≡ true → o ≡ Less
less_from Less h = refl
less_from Equal h = absurd cc
less_from Greater h = absurd cc

below_lower : (n m : CellName) (es : List NamedCell) → is_lt (cell_name_cmp n m) ≡ true
    → below_all cell_name_cmp m es ≡ true → below_all cell_name_cmp n es ≡ true
below_lower n m [] lt below = refl
below_lower n m (e ∷ es) lt below =
    let first = less_from _ (and_first (is_lt (cell_name_cmp m e.0)) (below_all cell_name_cmp m es) below) in
    let rest = below_lower n m es lt (and_second (is_lt (cell_name_cmp m e.0)) (below_all cell_name_cmp m es) below) in
    let lower = cell_name_cmp_total.trans n m e.0 (less_from _ lt) first in
    λ i. is_lt (lower i) && rest i

rising_below : (n : CellName) (es : List NamedCell) → is_rising (Some n) es ≡ true → below_all cell_name_cmp n es ≡ true
rising_below n [] rising = refl
rising_below n (e ∷ es) rising =
    let lt = and_first (is_lt (cell_name_cmp n e.0)) (is_rising (Some e.0) es) rising in
    let rest = rising_below e.0 es (and_second (is_lt (cell_name_cmp n e.0)) (is_rising (Some e.0) es) rising) in
    λ i. lt i && below_lower n e.0 es lt rest i

pub rising_sorted : (before : Option CellName) (es : List NamedCell) → is_rising before es ≡ true
    → is_sorted cell_name_cmp es ≡ true
rising_sorted before [] rising = refl
rising_sorted before (e ∷ es) rising =
    let rest = and_second (is_after before e.0) (is_rising (Some e.0) es) rising in
    λ i. rising_below e.0 es rest i && rising_sorted (Some e.0) es rest i

above_rising : (n : CellName) (es : List NamedCell) → below_all cell_name_cmp n es ≡ true
    → is_sorted cell_name_cmp es ≡ true → is_rising (Some n) es ≡ true
above_rising n [] below sorted = refl
above_rising n (e ∷ es) below sorted =
    let lt = and_first (is_lt (cell_name_cmp n e.0)) (below_all cell_name_cmp n es) below in
    let first = and_first (below_all cell_name_cmp e.0 es) (is_sorted cell_name_cmp es) sorted in
    let rest = and_second (below_all cell_name_cmp e.0 es) (is_sorted cell_name_cmp es) sorted in
    λ i. lt i && above_rising e.0 es first rest i

pub sorted_rising : (es : List NamedCell) → is_sorted cell_name_cmp es ≡ true → is_rising None es ≡ true
sorted_rising [] sorted = refl
sorted_rising (e ∷ es) sorted =
    above_rising e.0 es (and_first (below_all cell_name_cmp e.0 es) (is_sorted cell_name_cmp es) sorted)
    (and_second (below_all cell_name_cmp e.0 es) (is_sorted cell_name_cmp es) sorted)
