-- What is done to all cells is done to each archive of each key alone.
use Rattle.std.proofs.Common.{◌≡◌, ℕ, pos, ◌-ℤ◌, true, false, cond, not, ◌&&◌, List, [], ◌∷◌, map, refl, sym, ap, ◌∙◌, subst, true≢false, Some, None, is_some}
use Rattle.std.specs.Prelude.{int_lt, nat_eq, ◌==◌}
use Rattle.std.specs.List.{list_all, filter}
use Rattle.std.specs.Ordering.{eq_by_cmp}
use Rattle.std.specs.Cmp.Lexicographic.{pointwise, bytes_decides}
use Rattle.std.specs.FinMap.{get, insert, keys, get-insert, same_map}
use Rattle.std.proofs.lemmas.Bool.{eq-eqb, and_from, or_left, or_right}
use Rattle.rr_contrib.specs.declared.contribution.Contribution.{Contribution}
use Rattle.rr_schema.specs.Schema.{Layout, IsLayout, archive_at}
use Rattle.rr_join.specs.Maps.{trimmed}
use Rattle.rr_join.proofs.Booleans.{same_test, either_case}
use Rattle.rr_join.proofs.Members.{is_in, same_from_tie, tie_itself, all_at, all_from, is_in-filter}
use Rattle.rr_join.proofs.Lookups.{get-map_of_all, get-trimmed, is_in-keys}
use Rattle.rr_archive.specs.CellSlots.{CellSlot, cell_slot_cmp, is_live_at}
use Rattle.rr_archive.proofs.CellSlotOrder.{cell_slot_cmp_total, cell_slot_cmp-IsAntisymmetric}
use Rattle.rr_archive.proofs.Horizon.{is_past_at, live_at_horizon}
use Rattle.rr_cells.specs.CellNames.{CellName, cell_name_cmp, is_of, is_live}
use Rattle.rr_cells.proofs.Orders.{cell_name_cmp_total, cell_name_cmp-IsAntisymmetric}
use Rattle.rr_cells.proofs.Horizon.{is_past, is_of_says, archive_is, live_horizon}
use Rattle.rr_cells.specs.Cells.{Cells, name_at, cell_slot_of, archive_cells}

pub is_of_itself : (key : List ℕ) (archive : ℕ) (p : CellSlot) → is_of key archive (name_at key archive p) ≡ true
is_of_itself key archive p = and_from (pointwise nat_eq key key) (archive == archive) ((bytes_decides key key).1 refl)
    (eq-eqb archive archive refl)

pub named_place : (key : List ℕ) (archive : ℕ) (n : CellName) → is_of key archive n ≡ true
    → name_at key archive (cell_slot_of n) ≡ n
named_place key archive n e = let h = is_of_says key archive n e in
    λ i. record { key = sym h.0 i; archive = sym h.1 i; slot = n.slot; origin = n.origin }

in_places : (ns : List CellName) (n : CellName) → is_in cell_name_cmp ns n ≡ true
    → is_in cell_slot_cmp (map cell_slot_of ns) (cell_slot_of n) ≡ true
in_places [] n e = absurd (true≢false (sym e))
in_places (x ∷ ns) n e = either_case (eq_by_cmp cell_name_cmp n x) (is_in cell_name_cmp ns n) e
    (λ t. or_left (eq_by_cmp cell_slot_cmp (cell_slot_of n) (cell_slot_of x))
    (is_in cell_slot_cmp (map cell_slot_of ns) (cell_slot_of n))
    (subst (λ y. eq_by_cmp cell_slot_cmp (cell_slot_of n) (cell_slot_of y) ≡ true)
    (same_from_tie cell_name_cmp_total cell_name_cmp-IsAntisymmetric n x t)
    (tie_itself cell_slot_cmp_total cell_slot_cmp-IsAntisymmetric (cell_slot_of n))))
    (λ h. or_right (eq_by_cmp cell_slot_cmp (cell_slot_of n) (cell_slot_of x))
    (is_in cell_slot_cmp (map cell_slot_of ns) (cell_slot_of n)) (in_places ns n h))

module _ (key : List ℕ) (archive : ℕ) where
  pub get-archive_cells : (m : Cells) (p : CellSlot)
      → get (archive_cells m key archive) p ≡ get m (name_at key archive p)
  unfolding archive_cells
  get-archive_cells m p = get-map_of_all cell_slot_cmp_total cell_slot_cmp-IsAntisymmetric
      (map cell_slot_of (filter (is_of key archive) (keys m))) (λ q. get m (name_at key archive q)) (λ q e.
      in_places (filter (is_of key archive) (keys m)) (name_at key archive q)
      (is_in-filter cell_name_cmp_total cell_name_cmp-IsAntisymmetric (is_of key archive) (keys m)
      (name_at key archive q)
      ∙ and_from (is_of key archive (name_at key archive q)) (is_in cell_name_cmp (keys m) (name_at key archive q))
      (is_of_itself key archive q) (is_in-keys cell_name_cmp_total cell_name_cmp-IsAntisymmetric m
      (name_at key archive q) ∙ e))) p

  in_archive_cells : (m : Cells) (p : CellSlot) → is_in cell_slot_cmp (keys (archive_cells m key archive)) p
      ≡ is_in cell_name_cmp (keys m) (name_at key archive p)
  in_archive_cells m p = is_in-keys cell_slot_cmp_total cell_slot_cmp-IsAntisymmetric (archive_cells m key archive) p
      ∙ ap is_some (get-archive_cells m p) ∙ sym (is_in-keys cell_name_cmp_total cell_name_cmp-IsAntisymmetric m
      (name_at key archive p))

  module _ (s : Layout) (is : IsLayout s) where
    abbrev kept_rows : ℕ
    kept_rows = (archive_at s archive).rows

    live_at_says : (ps : List CellSlot) (p : CellSlot)
        → is_live_at kept_rows ps p ≡ list_all (λ q. not (is_past_at kept_rows q p)) ps
    live_at_says = (live_at_horizon kept_rows (archive_is s is archive).some_row).says

    live_says : (ns : List CellName) (n : CellName) → is_live s ns n ≡ list_all (λ m. not (is_past s m n)) ns
    live_says = (live_horizon s is).says

    -- a name is live beside all cells as its place is beside those of its archive
    pub live_local : (m : Cells) (p : CellSlot) → is_live s (keys m) (name_at key archive p)
        ≡ is_live_at kept_rows (keys (archive_cells m key archive)) p
    live_local m p = same_test (is_live s (keys m) (name_at key archive p))
        (is_live_at kept_rows (keys (archive_cells m key archive)) p)
        (λ a. live_at_says (keys (archive_cells m key archive)) p
        ∙ all_from cell_slot_cmp_total cell_slot_cmp-IsAntisymmetric (λ q. not (is_past_at kept_rows q p))
        (keys (archive_cells m key archive)) (λ q e.
        let h = all_at cell_name_cmp_total cell_name_cmp-IsAntisymmetric
        (λ n. not (is_past s n (name_at key archive p))) (keys m) (name_at key archive q)
        (sym (live_says (keys m) (name_at key archive p)) ∙ a) (sym (in_archive_cells m q) ∙ e) in
        ap (λ b. not (b && is_past_at kept_rows q p)) (sym (is_of_itself key archive q)) ∙ h))
        (λ a. live_says (keys m) (name_at key archive p)
        ∙ all_from cell_name_cmp_total cell_name_cmp-IsAntisymmetric
        (λ n. not (is_past s n (name_at key archive p))) (keys m) (λ n e.
        elim (is_of key archive n) as (λ b. is_of key archive n ≡ b
        → not (b && not (int_lt (n.slot -ℤ pos kept_rows) p.slot)) ≡ true) [
          | true ↦ λ of. all_at cell_slot_cmp_total cell_slot_cmp-IsAntisymmetric (λ q. not (is_past_at kept_rows q p))
              (keys (archive_cells m key archive)) (cell_slot_of n)
              (sym (live_at_says (keys (archive_cells m key archive)) p) ∙ a)
              (in_archive_cells m (cell_slot_of n) ∙ ap (is_in cell_name_cmp (keys m)) (named_place key archive n of)
              ∙ e)
          | false ↦ λ of. refl
        ] refl))

    pub trimmed_local : (m : Cells) → archive_cells (trimmed (is_live s) m) key archive
        ≡ trimmed (is_live_at kept_rows) (archive_cells m key archive)
    trimmed_local m = same_map cell_slot_cmp_total cell_slot_cmp-IsAntisymmetric _ _ (λ p.
        get-archive_cells (trimmed (is_live s) m) p ∙ get-trimmed cell_name_cmp_total cell_name_cmp-IsAntisymmetric
        (is_live s) m (name_at key archive p)
        ∙ (λ i. cond (live_local m p i) (sym (get-archive_cells m p) i) None)
        ∙ sym (get-trimmed cell_slot_cmp_total cell_slot_cmp-IsAntisymmetric (is_live_at kept_rows)
        (archive_cells m key archive) p))

  pub cell_slots_tie : (p q : CellSlot) → eq_by_cmp cell_name_cmp (name_at key archive p) (name_at key archive q)
      ≡ eq_by_cmp cell_slot_cmp p q
  cell_slots_tie p q = same_test _ _
      (λ e. let same = same_from_tie cell_name_cmp_total cell_name_cmp-IsAntisymmetric (name_at key archive p)
      (name_at key archive q) e in subst (λ r. eq_by_cmp cell_slot_cmp p r ≡ true) (ap cell_slot_of same)
      (tie_itself cell_slot_cmp_total cell_slot_cmp-IsAntisymmetric p))
      (λ e. subst (λ r. eq_by_cmp cell_name_cmp (name_at key archive p) (name_at key archive r) ≡ true)
      (same_from_tie cell_slot_cmp_total cell_slot_cmp-IsAntisymmetric p q e)
      (tie_itself cell_name_cmp_total cell_name_cmp-IsAntisymmetric (name_at key archive p)))

  -- a cell of the archive that is written
  pub insert_here : (m : Cells) (p : CellSlot) (c : Contribution)
      → archive_cells (insert m (name_at key archive p) c) key archive ≡ insert (archive_cells m key archive) p c
  insert_here m p c = same_map cell_slot_cmp_total cell_slot_cmp-IsAntisymmetric _ _ (λ q.
      get-archive_cells (insert m (name_at key archive p) c) q
      ∙ get-insert cell_name_cmp_total m (name_at key archive p) c (name_at key archive q)
      ∙ (λ i. cond (cell_slots_tie q p i) (Some c) (sym (get-archive_cells m q) i))
      ∙ sym (get-insert cell_slot_cmp_total (archive_cells m key archive) p c q))

  -- and one of another
  pub insert_elsewhere : (m : Cells) (n : CellName) (c : Contribution) → is_of key archive n ≡ false
      → archive_cells (insert m n c) key archive ≡ archive_cells m key archive
  insert_elsewhere m n c other = same_map cell_slot_cmp_total cell_slot_cmp-IsAntisymmetric _ _ (λ q.
      get-archive_cells (insert m n c) q ∙ get-insert cell_name_cmp_total m n c (name_at key archive q)
      ∙ elim (eq_by_cmp cell_name_cmp (name_at key archive q) n) as
      (λ t. eq_by_cmp cell_name_cmp (name_at key archive q) n ≡ t
      → cond t (Some c) (get m (name_at key archive q)) ≡ get m (name_at key archive q)) [
        | true ↦ λ t. absurd (true≢false (sym (is_of_itself key archive q)
            ∙ ap (is_of key archive) (same_from_tie cell_name_cmp_total cell_name_cmp-IsAntisymmetric
            (name_at key archive q) n t) ∙ other))
        | false ↦ λ t. refl
      ] refl
      ∙ sym (get-archive_cells m q))

-- cells that agree in each archive of each key are the same
pub same_cells : (m n : Cells) → ((key : List ℕ) (archive : ℕ)
    → archive_cells m key archive ≡ archive_cells n key archive) → m ≡ n
same_cells m n agree = same_map cell_name_cmp_total cell_name_cmp-IsAntisymmetric m n (λ q.
    sym (get-archive_cells q.key q.archive m (cell_slot_of q))
    ∙ ap (λ r. get r (cell_slot_of q)) (agree q.key q.archive)
    ∙ get-archive_cells q.key q.archive n (cell_slot_of q))
