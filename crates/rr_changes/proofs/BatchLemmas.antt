-- Batches of changes, each after the one before.
use Rattle.std.proofs.Common.{◌≡◌, ℕ, zero, suc, ◌<◌, ◌≤◌, true, T, List, [], ◌∷◌, ◌++◌, length, take, refl, sym, ap, ◌∙◌, subst, arith, Option, Some, None}
use Rattle.std.specs.Prelude.{nat_lt}
use Rattle.std.specs.FinMap.{is_sorted}
use Rattle.std.proofs.lemmas.Bool.Decides.{nat_tests}
use Rattle.std.proofs.lemmas.List.{length-take}
use Rattle.rr_cells.specs.CellNames.{CellName, cell_name_cmp}
use Rattle.rr_cells.specs.CellBounds.{NamedCell}
use Rattle.rr_cells.specs.Listing.{first_after}
use Rattle.rr_replica.proofs.Counted.{take_all}
use Rattle.rr_delta.specs.Summaries.{cells_after, cells_from}
use Rattle.rr_delta.proofs.Walks.{walked_on, walked_to}
use Rattle.rr_changes.specs.Changes.{last_name, next_of}

-- after the first of the cells after a name are the others of them
after_next : (after : Option CellName) (es : List NamedCell) (x : NamedCell) (xs : List NamedCell)
    → T (is_sorted cell_name_cmp es) → cells_after after es ≡ x ∷ xs → cells_after (Some x.0) es ≡ xs
after_next None [] x xs sorted e = absurd cc
after_next None (y ∷ ys) x xs sorted e =
    let same : y ≡ x = cc in
    let rest : cells_after (Some y.0) (y ∷ ys) ≡ ys = let all = walked_to zero (y ∷ ys) sorted in cc in
    let others : ys ≡ xs = cc in
    subst (λ (z : NamedCell). cells_after (Some z.0) (y ∷ ys) ≡ xs) same (rest ∙ others)
after_next (Some n) es x xs sorted e = go (first_after n es) (walked_on n es sorted ∙ e)
  where
    go : (o : Option NamedCell) → cells_from o es ≡ x ∷ xs → cells_after (Some x.0) es ≡ xs
    go None e = absurd cc
    go (Some y) e =
        let same : y ≡ x = cc in
        let rest : cells_after (Some y.0) es ≡ xs = cc in
        subst (λ (z : NamedCell). cells_after (Some z.0) es ≡ xs) same rest

-- the cells after a name are the first of them and those after the last of these
pub part_more : (n : ℕ) (after : Option CellName) (es : List NamedCell) → T (is_sorted cell_name_cmp es)
    → cells_after after es ≡ next_of n after es ++ cells_after (last_name after (next_of n after es)) es
part_more n after es sorted = go n after (cells_after after es) refl
  where
    go : (n : ℕ) (after : Option CellName) (l : List NamedCell) → cells_after after es ≡ l
        → l ≡ take n l ++ cells_after (last_name after (take n l)) es
    go zero after [] e = sym e
    go zero after (x ∷ xs) e = sym e
    go (suc n) after [] e = sym e
    go (suc n) after (x ∷ xs) e =
        ap (λ l. x ∷ l) (go n (Some x.0) xs (after_next after es x xs sorted e))

-- where fewer cells after a name came than were asked for, these are all
pub all_few : (limit : ℕ) (after : Option CellName) (es : List NamedCell)
    → nat_lt (length (next_of limit after es)) limit ≡ true → next_of limit after es ≡ cells_after after es
all_few limit after es t =
    let few : length (next_of limit after es) < limit = grind (arith, nat_tests) in
    take_all (cells_after after es) limit (short (cells_after after es) few)
  where
    short : (l : List NamedCell) → length (take limit l) < limit → length l ≤ limit
    short l few = omega (arith, length-take limit l)
