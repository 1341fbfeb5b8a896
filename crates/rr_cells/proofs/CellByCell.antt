-- To join a map cell by cell is to join it, and to join a cell is to know its marks.
use Rattle.std.proofs.Common.{◌≡◌, Bool, true, false, cond, ◌||◌, List, [], ◌∷◌, map, refl, sym, ap, ◌∙◌, true≢false, Option, Some, None}
use Rattle.std.specs.Ordering.{eq_by_cmp}
use Rattle.std.specs.Cmp.{eq_by_cmp_equiv}
use Rattle.std.specs.FinMap.{empty, get, insert, entries, keys, retain_keys, get-empty, get-insert, get-retain_keys, get-from_entries, get-entries, find, from_entries, same_map}
use Rattle.rr_schema.specs.Schema.{Layout, IsLayout}
use Rattle.rr_join.specs.Maps as Maps
use Rattle.rr_join.specs.Maps.{greater, merged, trimmed}
use Rattle.rr_join.proofs.Distinct.{IsDistinct, keys_distinct}
use Rattle.rr_join.proofs.Distinct.IsDistinct.{more}
use Rattle.rr_join.proofs.Greater.{greater-None}
use Rattle.rr_join.proofs.Joining.{joined_assoc, joined-trimmed}
use Rattle.rr_join.proofs.Lookups.{get-merged, get-trimmed}
use Rattle.rr_join.proofs.Members.{is_in, same_from_tie}
use Rattle.rr_contrib.specs.declared.contribution.Contribution.{Contribution}
use Rattle.rr_contrib.specs.Contributions.{contribution_cmp}
use Rattle.rr_contrib.specs.ContributionOrder.{contribution_cmp_total, contribution_cmp-IsAntisymmetric}
use Rattle.rr_cells.specs.CellNames.{CellName, cell_name_cmp, is_live}
use Rattle.rr_cells.specs.Knowledge.{cells_where}
use Rattle.rr_cells.proofs.Orders.{cell_name_cmp_total, cell_name_cmp-IsAntisymmetric}
use Rattle.rr_cells.proofs.Horizon.{live_horizon}
use Rattle.rr_cells.proofs.ClosedCells.{whole_cells_are_closed}
use Rattle.rr_cells.specs.Cells.{Cells, IsTrimmed}
use Rattle.rr_cells.specs.Joins.{join, join_cells}
use Rattle.rr_cells.specs.State.{cells_of_knowledge}
use Rattle.rr_cells.specs.Laws.{JoinGoesByCells, JoinCellUnites}
use Rattle.rr_cells.proofs.JoinLaws.{join_trims}
use Rattle.rr_cells.proofs.Uniting.{join_states}
use Rattle.rr_cells.proofs.WholeCells.{state_where}

no_find : (es : List (CellName × Contribution)) (q : CellName) → is_in cell_name_cmp (map (λ e. e.0) es) q ≡ false
    → find cell_name_cmp q es ≡ None
no_find [] q h = refl
no_find (e ∷ es) q h =
    ap (λ b. cond b (Some e.1) (find cell_name_cmp q es))
    (first (eq_by_cmp cell_name_cmp q e.0) (is_in cell_name_cmp (map (λ e. e.0) es) q) h)
    ∙ no_find es q (second (eq_by_cmp cell_name_cmp q e.0) (is_in cell_name_cmp (map (λ e. e.0) es) q) h)
  where
    first : (a b : Bool) → (a || b) ≡ false → a ≡ false
    first true b e = e
    first false b e = refl

    second : (a b : Bool) → (a || b) ≡ false → b ≡ false
    second true b e = absurd (true≢false e)
    second false b e = e

one_more : (m : Cells) (n : CellName) (c : Contribution) → get m n ≡ None
    → merged contribution_cmp (insert empty n c) m ≡ insert m n c
one_more m n c absent = same_map cell_name_cmp_total cell_name_cmp-IsAntisymmetric
    (merged contribution_cmp (insert empty n c) m) (insert m n c) (λ q.
    get-merged cell_name_cmp_total cell_name_cmp-IsAntisymmetric contribution_cmp (insert empty n c) m q
    ∙ ap (λ v. greater contribution_cmp v (get m q))
    (get-insert cell_name_cmp_total empty n c q ∙ ap (cond (eq_by_cmp cell_name_cmp q n) (Some c))
    (get-empty cell_name_cmp q))
    ∙ elim (eq_by_cmp cell_name_cmp q n) as (λ t. eq_by_cmp cell_name_cmp q n ≡ t
    → greater contribution_cmp (cond t (Some c) None) (get m q) ≡ cond t (Some c) (get m q)) [
      | true ↦ λ t. ap (greater contribution_cmp (Some c))
          (ap (get m) (same_from_tie cell_name_cmp_total cell_name_cmp-IsAntisymmetric q n t) ∙ absent)
      | false ↦ λ t. refl
    ] refl
    ∙ sym (get-insert cell_name_cmp_total m n c q))

pub join_nothing : (s : Layout) (m : Cells) → IsTrimmed s m → m ≡ join s m empty
unfolding Maps.joined
join_nothing s m kept = sym kept ∙ ap (trimmed (is_live s))
    (same_map cell_name_cmp_total cell_name_cmp-IsAntisymmetric m (merged contribution_cmp m empty) (λ q.
    sym (get-merged cell_name_cmp_total cell_name_cmp-IsAntisymmetric contribution_cmp m empty q
    ∙ ap (greater contribution_cmp (get m q)) (get-empty cell_name_cmp q)
    ∙ greater-None contribution_cmp (get m q))))

join_one_more : (s : Layout) (m : Cells) (n : CellName) (c : Contribution) → get m n ≡ None
    → join s (insert empty n c) m ≡ trimmed (is_live s) (insert m n c)
unfolding Maps.joined
join_one_more s m n c absent = ap (trimmed (is_live s)) (one_more m n c absent)

by_cells : (s : Layout) → IsLayout s → (es : List (CellName × Contribution))
    → IsDistinct cell_name_cmp (map (λ e. e.0) es) → (m : Cells) → IsTrimmed s m
    → join_cells s m es ≡ join s m (from_entries es)
by_cells s is [] d m kept = join_nothing s m kept
by_cells s is (e ∷ es) (more apart d) m kept =
    let one : Cells = insert empty e.0 e.1 in
    let rest : Cells = from_entries es in
    by_cells s is es d (join s m one) (join_trims s m one is)
    ∙ joined_assoc cell_name_cmp_total cell_name_cmp-IsAntisymmetric contribution_cmp_total
    contribution_cmp-IsAntisymmetric (live_horizon s is) m one rest
    ∙ ap (join s m) (join_one_more s rest e.0 e.1 (get-from_entries cell_name_cmp_total es e.0 ∙ no_find es e.0 apart))
    ∙ joined-trimmed cell_name_cmp_total cell_name_cmp-IsAntisymmetric contribution_cmp_total
    contribution_cmp-IsAntisymmetric (live_horizon s is) m (insert rest e.0 e.1)

all_entries : (m : Cells) → from_entries (entries m) ≡ m
all_entries m = same_map cell_name_cmp_total cell_name_cmp-IsAntisymmetric (from_entries (entries m)) m
    (λ q. get-from_entries cell_name_cmp_total (entries m) q ∙ sym (get-entries m q))

pub join_goes_by_cells : JoinGoesByCells
join_goes_by_cells s m n is kept = by_cells s is (entries n) (keys_distinct n) m kept ∙ ap (join s m) (all_entries n)

-- the map of one cell is all cells but the others
one_cell : (m : Cells) (n : CellName) (c : Contribution) → get m n ≡ Some c
    → insert empty n c ≡ retain_keys m (eq_by_cmp cell_name_cmp n)
one_cell m n c e = same_map cell_name_cmp_total cell_name_cmp-IsAntisymmetric (insert empty n c)
    (retain_keys m (eq_by_cmp cell_name_cmp n)) (λ q.
    get-insert cell_name_cmp_total empty n c q ∙ ap (cond (eq_by_cmp cell_name_cmp q n) (Some c))
    (get-empty cell_name_cmp q)
    ∙ elim (eq_by_cmp cell_name_cmp q n) as (λ b. eq_by_cmp cell_name_cmp q n ≡ b
    → cond b (Some c) None ≡ cond b (get m q) None) [
      | true ↦ λ t. sym e ∙ ap (get m) (sym (same_from_tie cell_name_cmp_total cell_name_cmp-IsAntisymmetric q n t))
      | false ↦ λ t. refl
    ] refl
    ∙ ap (λ b. cond b (get m q) None) ((eq_by_cmp_equiv cell_name_cmp_total).symm q n)
    ∙ sym (get-retain_keys m (eq_by_cmp cell_name_cmp n) q
    (λ x t. ap (eq_by_cmp cell_name_cmp n) (sym (cell_name_cmp-IsAntisymmetric q x t)))))

pub join_cell_unites : JoinCellUnites
join_cell_unites s w k l n c is ck cl e =
    ap (join s (cells_of_knowledge s k)) (one_cell (cells_of_knowledge s l) n c e
    ∙ sym (state_where s is l (eq_by_cmp cell_name_cmp n)))
    ∙ join_states s is w k (cells_where s l (eq_by_cmp cell_name_cmp n)) ck
    (whole_cells_are_closed s w l (eq_by_cmp cell_name_cmp n) cl)

-- no cell is past the horizon where there is none
pub trimmed_none : (s : Layout) → IsTrimmed s empty
trimmed_none s = same_map cell_name_cmp_total cell_name_cmp-IsAntisymmetric _ _ (λ q.
    get-trimmed cell_name_cmp_total cell_name_cmp-IsAntisymmetric (is_live s) empty q
    ∙ ap (λ o. cond (is_live s (keys nothing) q) o None) (get-empty cell_name_cmp q)
    ∙ none_either_way (is_live s (keys nothing) q)
    ∙ sym (get-empty cell_name_cmp q))
  where
    nothing : Cells
    nothing = empty

    none_either_way : (b : Bool) → ◌≡◌ {A = Option Contribution} (cond b None None) None
    none_either_way true = refl
    none_either_way false = refl
