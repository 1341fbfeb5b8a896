-- How many samples no archive kept, as a keeper's operations grow.
use Rattle.std.proofs.Common.{◌≡◌, ℕ, ◌+◌, ◌-◌, min, List, [], ◌∷◌, ◌++◌, map, fold, refl, sym, ap, ◌∙◌, append_assoc, append-nil, arith}
use Rattle.std.specs.Prelude.{◌^◌}
use Rattle.std.specs.FinMap.{empty, entries}
use Rattle.logbook.specs.Pages.{Book}
use Rattle.rr_schema.specs.Schema.{Layout}
use Rattle.rr_cells.specs.declared.op.Op.{Op}
use Rattle.rr_cells.specs.declared.op.Op.TheVariants.{Join}
use Rattle.rr_cells.specs.declared.cell.Cell.{Cell}
use Rattle.rr_cells.specs.CellBounds.{NamedCell}
use Rattle.rr_cells.specs.Cells.{Cells}
use Rattle.rr_cells.specs.Operations.{cell_step, to_cell}
use Rattle.rr_cells.specs.ReplicaState.{ReplicaState}
use Rattle.rr_desk.specs.KeeperState.{KeeperState, cells_of, keeper_at_opening, with_pending}
use Rattle.rr_desk.specs.PastHorizon.{lost_by, lost_of, past_horizon_of}

-- one operation more
lost_more : (s : Layout) (m : Cells) (ops : List Op) (op : Op)
    → lost_of s m (ops ++ op ∷ []) ≡ lost_of s m ops + lost_by s (fold (cell_step s) m ops) op
lost_more s m [] op = omega arith
lost_more s m (first ∷ ops) op =
    let rest = lost_more s (cell_step s m first) ops op in
    omega (arith, rest)

-- joins put none
none_joined : (s : Layout) (m : Cells) (es : List NamedCell) → lost_of s m (map (λ e. Join (to_cell e)) es) ≡ 0
none_joined s m [] = refl
none_joined s m (e ∷ es) = let rest = none_joined s (cell_step s m (Join (to_cell e))) es in omega (arith, rest)

pub past_more : (k : KeeperState) (op : Op)
    → min (past_horizon_of k + lost_by k.schema (cells_of k) op) (2 ^ 64 - 1) ≡ past_horizon_of (with_pending k op)
past_more k op =
    let all = k.published ++ k.pending in
    let more = lost_more k.schema empty all op in
    capped (lost_of k.schema empty all) (lost_by k.schema (cells_of k) op)
    ∙ ap (λ n. min n (2 ^ 64 - 1)) (sym more)
    ∙ ap (λ ops. min (lost_of k.schema empty ops) (2 ^ 64 - 1)) (append_assoc k.published k.pending (op ∷ []))
  where
    capped : (n m : ℕ) → min (min n (2 ^ 64 - 1) + m) (2 ^ 64 - 1) ≡ min (n + m) (2 ^ 64 - 1)
    capped n m = omega arith

pub past_joined : (k : KeeperState) (c : Cell) → past_horizon_of k ≡ past_horizon_of (with_pending k (Join c))
past_joined k c = alone (lost_of k.schema empty (k.published ++ k.pending)) ∙ past_more k (Join c)
  where
    alone : (n : ℕ) → min n (2 ^ 64 - 1) ≡ min (min n (2 ^ 64 - 1) + 0) (2 ^ 64 - 1)
    alone n = omega arith

pub past_at_opening : (h : ReplicaState) (b : Book) → 0 ≡ past_horizon_of (keeper_at_opening h b)
past_at_opening h b =
    let none = none_joined h.schema empty (entries h.cells) in
    let all = append-nil (map (λ (e : NamedCell). Join (to_cell e)) (entries h.cells)) in
    ap (λ n. min n (2 ^ 64 - 1)) (sym none) ∙ ap (λ ops. min (lost_of h.schema empty ops) (2 ^ 64 - 1)) (sym all)
