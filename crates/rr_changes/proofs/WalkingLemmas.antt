-- Cells that are listed up to a limit.
use Rattle.std.proofs.Common.{◌≡◌, ℕ, zero, suc, ◌+◌, ◌-◌, ◌<◌, ◌≤◌, List, [], ◌∷◌, ◌++◌, map, take, refl, ap, ◌∙◌, append_assoc, append-nil, arith, Option}
use Rattle.std.specs.Global.{Vec}
use Rattle.std.specs.Prelude.{Ok}
use Rattle.std.specs.FinMap.{entries, entries_sorted, is_sorted}
use Rattle.rr_join.proofs.Booleans.{true_from_T}
use Rattle.rr_cells.specs.declared.cell.Cell.{Cell}
use Rattle.rr_cells.specs.CellNames.{CellName, cell_name_cmp}
use Rattle.rr_cells.specs.CellBounds.{IsCellOf, NamedCell}
use Rattle.rr_cells.specs.Listing.{owned_cell}
use Rattle.rr_cells.specs.ReplicaState.{IsReplicaState, ReplicaState}
use Rattle.rr_delta.specs.Listed.{ListsCells}
use Rattle.rr_delta.specs.Summaries.{cells_after}
use Rattle.rr_delta.proofs.HeldLemmas.{after_held, all_held, all_taken, cells_held}
use Rattle.rr_delta.proofs.Walks.{sorted_after, sorted_take}
use Rattle.rr_changes.specs.Changes.{next_of}

-- one more of them
pub one_told : (prefix : List NamedCell) (limit i : ℕ) (e : NamedCell) (left : List NamedCell) → i < limit
    → (prefix ++ e ∷ []) ++ take (limit - (i + 1)) left ≡ prefix ++ take (limit - i) (e ∷ left)
one_told prefix limit i e left lt =
    append_assoc prefix (e ∷ []) (take (limit - (i + 1)) left)
    ∙ ap (λ n. prefix ++ take n (e ∷ left)) (one_less limit i lt)
  where
    one_less : (m k : ℕ) → k < m → suc (m - (k + 1)) ≡ m - k
    one_less m k h = omega arith

-- the limit is reached
pub all_told : (prefix : List NamedCell) (limit i : ℕ) (left : List NamedCell) → limit ≤ i
    → prefix ++ take (limit - i) left ≡ prefix
all_told prefix limit i left le = ap (λ n. prefix ++ take n left) none ∙ ap (λ l. prefix ++ l) (nothing left)
    ∙ append-nil prefix
  where
    none : limit - i ≡ 0
    none = omega arith

    nothing : (es : List NamedCell) → take 0 es ≡ []
    nothing [] = refl
    nothing (e ∷ es) = refl

-- there are no more
pub none_more : (prefix : List NamedCell) (n : ℕ) → prefix ++ take n [] ≡ prefix
none_more prefix zero = append-nil prefix
none_more prefix (suc n) = append-nil prefix

-- a list of the next cells of a replica
pub lists_next : (h : ReplicaState) (limit : ℕ) (after : Option CellName) (cells : Vec Cell) → IsReplicaState h
    → map owned_cell cells.items ≡ next_of limit after (entries h.cells)
    → ListsCells h.schema (next_of limit after (entries h.cells)) (Ok cells)
lists_next h limit after cells holds listed = record {
  newer = listed;
  ascending = ap (is_sorted cell_name_cmp) listed ∙ true_from_T _ (sorted_take limit (cells_after after (entries h.cells))
      (sorted_after after (entries h.cells) (entries_sorted h.cells)));
  of_schema = cells_held h.schema cells.items (next_of limit after (entries h.cells))
      (all_taken (IsCellOf h.schema) limit (cells_after after (entries h.cells))
      (after_held h.schema after (entries h.cells) (all_held h holds))) listed;
}
