-- The cells of whole live cells of what is known.
use Rattle.std.proofs.Common.{◌≡◌, Bool, true, false, cond, ◌&&◌, refl, sym, ap, ◌∙◌, None}
use Rattle.std.specs.Ordering.{eq_by_cmp}
use Rattle.std.specs.FinMap.{get, keys, retain_keys, get-retain_keys, same_map}
use Rattle.std.proofs.lemmas.Bool.{and_from}
use Rattle.rr_schema.specs.Schema.{Layout, IsLayout}
use Rattle.rr_join.proofs.Booleans.{same_test, and_first, and_second}
use Rattle.rr_join.proofs.Horizons.{live_fewer}
use Rattle.rr_join.proofs.Members.{is_in, found_of, any_from}
use Rattle.rr_cells.specs.CellNames.{CellName, cell_name_cmp}
use Rattle.rr_cells.specs.Samples.{Mark, name_of, names_of}
use Rattle.rr_cells.specs.Knowledge.{Knowledge, knows, is_live_in, live, cell, cells_where}
use Rattle.rr_cells.proofs.Orders.{cell_name_cmp_total, cell_name_cmp-IsAntisymmetric, mark_cmp_total, mark_cmp-IsAntisymmetric}
use Rattle.rr_cells.proofs.Horizon.{live_horizon}
use Rattle.rr_cells.proofs.Knowing.{same_knowledge, is_in-keys_of, is_in-names_of, knows-live, knows-cell, name_from_tie}
use Rattle.rr_cells.proofs.ClosedCells.{knows-cells_where}
use Rattle.rr_cells.specs.State.{cells_of_knowledge}
use Rattle.rr_cells.specs.Laws.{WholeCellsMakeTheirCells, LiveMakesTheSame, StateIsOfTheLive}
use Rattle.rr_cells.proofs.States.{value, no_value, get-state}

module _ (s : Layout) (is : IsLayout s) (k : Knowledge) (test : CellName → Bool) where
  abbrev kept : Knowledge
  kept = cells_where s k test

  names_kept : (n : CellName) → is_in cell_name_cmp (names_of s (keys kept)) n ≡ true
      → is_in cell_name_cmp (names_of s (keys k)) n ≡ true
  names_kept n e =
      let bears : Mark → Bool = λ m. eq_by_cmp cell_name_cmp n (name_of s m) in
      let f = found_of mark_cmp_total mark_cmp-IsAntisymmetric bears (keys kept)
      (sym (is_in-names_of s (keys kept) n) ∙ e) in
      let known = sym (knows-cells_where s k test f.item) ∙ (sym (is_in-keys_of kept f.item) ∙ f.known) in
      is_in-names_of s (keys k) n ∙ any_from mark_cmp_total mark_cmp-IsAntisymmetric bears (keys k) f.item
      (is_in-keys_of k f.item ∙ and_first (knows k f.item) (is_live_in s k (name_of s f.item))
      (and_first (knows k f.item && is_live_in s k (name_of s f.item)) (test (name_of s f.item)) known)) f.passes

  still_live : (n : CellName) → is_live_in s k n ≡ true → is_live_in s kept n ≡ true
  still_live n e = live_fewer cell_name_cmp_total cell_name_cmp-IsAntisymmetric (live_horizon s is)
      (names_of s (keys k)) (names_of s (keys kept)) n names_kept e

  cell_kept : (n : CellName) → test n ≡ true → cell s kept n ≡ cell s k n
  cell_kept n pass = same_knowledge (cell s kept n) (cell s k n)
      (λ m. same_test (knows (cell s kept n) m) (knows (cell s k n) m)
      (λ e.
      let here = sym (knows-cell s kept n m) ∙ e in
      let known = sym (knows-cells_where s k test m)
      ∙ and_first (knows kept m) (is_live_in s kept (name_of s m))
      (and_first (knows kept m && is_live_in s kept (name_of s m)) (eq_by_cmp cell_name_cmp (name_of s m) n) here)
      in
      knows-cell s k n m ∙ and_from (knows k m && is_live_in s k (name_of s m))
      (eq_by_cmp cell_name_cmp (name_of s m) n) (and_first (knows k m && is_live_in s k (name_of s m))
      (test (name_of s m)) known) (and_second (knows kept m && is_live_in s kept (name_of s m))
      (eq_by_cmp cell_name_cmp (name_of s m) n) here))
      (λ e.
      let here = sym (knows-cell s k n m) ∙ e in
      let was = and_first (knows k m && is_live_in s k (name_of s m)) (eq_by_cmp cell_name_cmp (name_of s m) n) here in
      let bears = and_second (knows k m && is_live_in s k (name_of s m)) (eq_by_cmp cell_name_cmp (name_of s m) n)
      here in
      knows-cell s kept n m ∙ and_from (knows kept m && is_live_in s kept (name_of s m))
      (eq_by_cmp cell_name_cmp (name_of s m) n)
      (and_from (knows kept m) (is_live_in s kept (name_of s m))
      (knows-cells_where s k test m ∙ and_from (knows k m && is_live_in s k (name_of s m)) (test (name_of s m)) was
      (ap test (name_from_tie s m n bears) ∙ pass))
      (still_live (name_of s m) (and_second (knows k m) (is_live_in s k (name_of s m)) was)))
      bears))

  cell_left_out : (n : CellName) → test n ≡ false → (m : Mark) → knows (cell s kept n) m ≡ false
  cell_left_out n fail m = elim (knows (cell s kept n) m) as (λ b. knows (cell s kept n) m ≡ b → b ≡ false) [
    | true ↦ λ e.
        let here = sym (knows-cell s kept n m) ∙ e in
        let known = sym (knows-cells_where s k test m)
        ∙ and_first (knows kept m) (is_live_in s kept (name_of s m))
        (and_first (knows kept m && is_live_in s kept (name_of s m)) (eq_by_cmp cell_name_cmp (name_of s m) n) here)
        in
        let bears = name_from_tie s m n (and_second (knows kept m && is_live_in s kept (name_of s m))
        (eq_by_cmp cell_name_cmp (name_of s m) n) here) in
        sym (and_second (knows k m && is_live_in s k (name_of s m)) (test (name_of s m)) known) ∙ ap test bears ∙ fail
    | false ↦ λ e. refl
  ] refl

  pub state_where : cells_of_knowledge s kept ≡ retain_keys (cells_of_knowledge s k) test
  state_where = same_map cell_name_cmp_total cell_name_cmp-IsAntisymmetric (cells_of_knowledge s kept)
      (retain_keys (cells_of_knowledge s k) test) (λ n.
      get-state s kept n
      ∙ elim (test n) as (λ b. test n ≡ b → value s (cell s kept n) ≡ cond b (get (cells_of_knowledge s k) n) None) [
        | true ↦ λ e. ap (value s) (cell_kept n e) ∙ sym (get-state s k n)
        | false ↦ λ e. no_value s (cell s kept n) (cell_left_out n e)
      ] refl
      ∙ sym (get-retain_keys (cells_of_knowledge s k) test n
      (λ x e. ap test (sym (cell_name_cmp-IsAntisymmetric n x e)))))

pub whole_cells_make_their_cells : WholeCellsMakeTheirCells
whole_cells_make_their_cells s k test is = state_where s is k test

live_is_all_cells : (s : Layout) (k : Knowledge) → cells_where s k (λ _. true) ≡ live s k
live_is_all_cells s k = same_knowledge (cells_where s k (λ _. true)) (live s k)
    (λ m. knows-cells_where s k (λ _. true) m ∙ and_true (knows k m && is_live_in s k (name_of s m))
    ∙ sym (knows-live s k m))
  where
    and_true : (a : Bool) → (a && true) ≡ a
    and_true true = refl
    and_true false = refl

pub live_makes_the_same : LiveMakesTheSame
live_makes_the_same s k is =
    ap (cells_of_knowledge s) (sym (live_is_all_cells s k)) ∙ state_where s is k (λ _. true)
    ∙ same_map cell_name_cmp_total cell_name_cmp-IsAntisymmetric (retain_keys (cells_of_knowledge s k) (λ _. true))
    (cells_of_knowledge s k) (λ n. get-retain_keys (cells_of_knowledge s k) (λ _. true) n (λ x e. refl))

pub state_is_of_the_live : StateIsOfTheLive
state_is_of_the_live s k l is same = sym (live_makes_the_same s k is) ∙ ap (cells_of_knowledge s) same
    ∙ live_makes_the_same s l is
