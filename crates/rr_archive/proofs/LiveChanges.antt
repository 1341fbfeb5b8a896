-- What a change of one row changes of the map of the live cells.
use Rattle.std.proofs.Common.{◌≡◌, ℕ, ◌≤◌, ℤ, pos, ◌-ℤ◌, Bool, true, false, cond, ◌&&◌, List, [], refl, sym, ap, ◌∙◌, subst, Option, Some, None, is_some, Equal, int_cmp, arith, eqb, true≢false, map}
use Rattle.std.specs.Prelude.{int_lt, is_none, ◌+◌}
use Rattle.std.specs.Ordering.{eq_by_cmp, ord_max, int_eq, is_eq, is_lt}
use Rattle.std.specs.FinMap.{empty, get, insert, keys, len, retain_keys, same_map, get-insert, get-empty, get-retain_keys, len-empty}
use Rattle.std.proofs.lemmas.Int.{ints}
use Rattle.rr_join.specs.Maps.{greater, trimmed}
use Rattle.rr_join.specs.Horizon.{is_above}
use Rattle.rr_join.proofs.Lookups.{get-trimmed}
use Rattle.rr_join.proofs.Members.{same_from_tie}
use Rattle.rr_join.proofs.Joining.{trimmed-trimmed}
use Rattle.rr_contrib.specs.declared.contribution.Contribution.{Contribution}
use Rattle.rr_archive.specs.declared.entry.Entry.{Entry}
use Rattle.rr_archive.specs.CellSlots.{CellSlot, cell_slot, cell_slot_cmp, newest_of, is_live_at, IsSlot, IsInRange}
use Rattle.rr_archive.specs.Cells.{ArchiveCells, AreInRange, IsTrimmed}
use Rattle.rr_archive.specs.Row.{entry_at, with_entry, ascends}
use Rattle.rr_archive.proofs.CellSlotOrder.{cell_slot_cmp_total, cell_slot_cmp-IsAntisymmetric}
use Rattle.rr_archive.proofs.Horizon.{live_at_horizon}
use Rattle.rr_archive.proofs.ArchiveStateLemmas.{cell_slots_tie}
use Rattle.rr_archive.proofs.RowLemmas.{entry_at-with_entry}
use Rattle.rr_archive.proofs.FewCells.{newest-insert, in_range-insert, contains_key-get}
use Rattle.rr_archive.proofs.Counting.{len_with}
use Rattle.rr_archive.proofs.Trimming.{in_range-trimmed, newest-trimmed, trimmed_by_slots, trimmed_dead, trimmed_none}
use Rattle.rr_archive.specs.LiveRows.{is_empty, cells_by, is_later, IsArchiveStateBy}
use Rattle.rr_archive.proofs.LiveRowsLemmas.{get-cells_by, entries-cells_by}

pub same_slot : (a b : ℤ) → int_eq a b ≡ true → a ≡ b
same_slot a b h = grind (arith, ints)

-- the later of a newest slot, if there is one, and a slot
pub record IsTop (newest : Option ℤ) (slot top : ℤ) : Type 0 where
  pub reaches : int_lt top slot ≡ false
  pub keeps : (s : ℤ) → int_lt top s ≡ true → is_later newest s ≡ true
  pub above : (limit : ℕ) (s : ℤ) → int_lt (top -ℤ pos limit) s ≡ true → is_above limit newest s ≡ true

pub top_is : (newest : Option ℤ) (slot top : ℤ) → Some top ≡ greater int_cmp newest (Some slot) → IsTop newest slot top
top_is None slot top is = record { reaches = not_later top slot (cc); keeps = λ s h. refl; above = λ limit s h. refl }
  where
    not_later : (top slot : ℤ) → top ≡ slot → int_lt top slot ≡ false
    not_later top slot is = grind (arith, ints)
top_is (Some old) slot top is =
    let max : top ≡ ord_max int_cmp old slot = cc in
    record { reaches = reaches old slot top max; keeps = keeps old slot top max; above = above old slot top max }
  where
    reaches : (old slot top : ℤ) → top ≡ ord_max int_cmp old slot → int_lt top slot ≡ false
    reaches old slot top is = grind (arith, ints)

    keeps : (old slot top : ℤ) → top ≡ ord_max int_cmp old slot → (s : ℤ) → int_lt top s ≡ true → int_lt old s ≡ true
    keeps old slot top is s h = grind (arith, ints)

    above : (old slot top : ℤ) → top ≡ ord_max int_cmp old slot → (limit : ℕ) (s : ℤ)
        → int_lt (top -ℤ pos limit) s ≡ true → int_lt (old -ℤ pos limit) s ≡ true
    above old slot top is limit s h = grind (arith, ints)

-- an entry was set in a live slot: the other slots that are still live store what they did, and nothing is
-- stored of slots that are later than the newest
pub record IsSetIn (limit : ℕ) (top slot : ℤ) (e : Entry) (f g : ℤ → List Entry) : Type 0 where
  pub live : (s : ℤ) → int_lt (top -ℤ pos limit) s ≡ true → g s ≡ cond (int_eq slot s) (with_entry (f slot) e) (f s)
  pub ascend : (s : ℤ) → ascends (g s) ≡ true
  pub none_later : (s : ℤ) → int_lt top s ≡ true → is_empty (g s) ≡ true

-- the slot is live under the new newest too
pub still_live : (limit : ℕ) (newest : Option ℤ) (top slot : ℤ) → 1 ≤ limit
    → Some top ≡ greater int_cmp newest (Some slot) → is_above limit newest slot ≡ true
    → int_lt (top -ℤ pos limit) slot ≡ true
still_live limit None top slot some later live = here limit top slot some (cc)
  where
    here : (limit : ℕ) (top slot : ℤ) → 1 ≤ limit → top ≡ slot → int_lt (top -ℤ pos limit) slot ≡ true
    here limit top slot some is = grind (arith, ints)
still_live limit (Some old) top slot some later live = after limit old top slot some (cc) live
  where
    after : (limit : ℕ) (old top slot : ℤ) → 1 ≤ limit → top ≡ ord_max int_cmp old slot
        → int_lt (old -ℤ pos limit) slot ≡ true → int_lt (top -ℤ pos limit) slot ≡ true
    after limit old top slot some is low = grind (arith, ints)

-- the later of two slots of times is one
pub later_is_slot : (newest : Option ℤ) (slot top : ℤ) → Some top ≡ greater int_cmp newest (Some slot) → IsSlot slot
    → ((old : ℤ) → newest ≡ Some old → IsSlot old) → IsSlot top
later_is_slot None slot top later here was = subst IsSlot (alone later) here
  where
    alone : Some top ≡ Some slot → slot ≡ top
    alone is = cc
later_is_slot (Some old) slot top later here was =
    let max : top ≡ ord_max int_cmp old slot = cc in
    subst IsSlot (sym max) (elim (is_lt (int_cmp slot old)) as (λ b. IsSlot (cond b old slot))
    [ true ↦ was old refl | false ↦ here ])

module _ (limit : ℕ) (newest : Option ℤ) (count : ℕ) (top slot : ℤ) (e : Entry) (f g : ℤ → List Entry)
    (some : 1 ≤ limit) (h : IsArchiveStateBy limit newest count f) (set : IsSetIn limit top slot e f g)
    (later : Some top ≡ greater int_cmp newest (Some slot)) (live : is_above limit newest slot ≡ true) where
  is_top : IsTop newest slot top
  is_top = top_is newest slot top later

  alive : int_lt (top -ℤ pos limit) slot ≡ true
  alive = still_live limit newest top slot some later live

  abbrev old_cells : ArchiveCells
  old_cells = cells_by limit newest f

  abbrev set_at : CellSlot
  set_at = cell_slot slot e.origin

  newest_is : newest_of (keys (insert old_cells set_at e.contribution)) ≡ Some top
  newest_is = newest-insert old_cells set_at e.contribution ∙ ap (λ o. greater int_cmp o (Some slot)) (sym h.latest)
      ∙ sym later

  -- at one cell slot of a live slot
  one_cell : (q : CellSlot) → int_lt (top -ℤ pos limit) q.slot ≡ true
      → entry_at (g q.slot) q.origin ≡ cond (eq_by_cmp cell_slot_cmp q set_at) (Some e.contribution)
      (cond (is_above limit newest q.slot) (entry_at (f q.slot) q.origin) None)
  one_cell q low =
      ap (λ es. entry_at es q.origin) (set.live q.slot low)
      ∙ elim (int_eq slot q.slot) as (λ b. int_eq slot q.slot ≡ b
      → entry_at (cond b (with_entry (f slot) e) (f q.slot)) q.origin
      ≡ cond (b && eqb e.origin q.origin) (Some e.contribution) (entry_at (f q.slot) q.origin)) [
        | true ↦ λ t. entry_at-with_entry (f slot) e q.origin
            ∙ ap (λ s. cond (eqb e.origin q.origin) (Some e.contribution) (entry_at (f s) q.origin))
            (same_slot slot q.slot t)
        | false ↦ λ _. refl
      ] refl
      ∙ ap (λ b. cond b (Some e.contribution) (entry_at (f q.slot) q.origin))
      (sym (cell_slots_tie q set_at ∙ ap (λ b. b && eqb e.origin q.origin) (tie_is slot q.slot)))
      ∙ ap (λ b. cond (eq_by_cmp cell_slot_cmp q set_at) (Some e.contribution)
      (cond b (entry_at (f q.slot) q.origin) None)) (sym (is_top.above limit q.slot low))
    where
      tie_is : (a b : ℤ) → is_eq (int_cmp a b) ≡ int_eq a b
      tie_is a b = grind (arith, ints)

  pub change_cells : cells_by limit (Some top) g ≡ trimmed (is_live_at limit) (insert old_cells set_at e.contribution)
  change_cells = same_map cell_slot_cmp_total cell_slot_cmp-IsAntisymmetric _ _ (λ q.
      get-cells_by g limit (Some top) set.ascend set.none_later q
      ∙ elim (int_lt (top -ℤ pos limit) q.slot) as (λ b. int_lt (top -ℤ pos limit) q.slot ≡ b
      → cond b (entry_at (g q.slot) q.origin) None
      ≡ cond b (cond (eq_by_cmp cell_slot_cmp q set_at) (Some e.contribution)
      (cond (is_above limit newest q.slot) (entry_at (f q.slot) q.origin) None)) None) [
        | true ↦ λ low. one_cell q low
        | false ↦ λ _. refl
      ] refl
      ∙ ap (λ o. cond (int_lt (top -ℤ pos limit) q.slot)
      (cond (eq_by_cmp cell_slot_cmp q set_at) (Some e.contribution) o) None)
      (sym (get-cells_by f limit newest h.ascend h.none_later q))
      ∙ ap (λ o. cond (int_lt (top -ℤ pos limit) q.slot) o None)
      (sym (get-insert cell_slot_cmp_total old_cells set_at e.contribution q))
      ∙ ap (λ o. cond (is_above limit o q.slot) (get (insert old_cells set_at e.contribution) q) None) (sym newest_is)
      ∙ sym (get-trimmed cell_slot_cmp_total cell_slot_cmp-IsAntisymmetric (is_live_at limit)
      (insert old_cells set_at e.contribution) q))

  -- how many cells there are then: what is left of those before, and the new one
  pub change_len : len (cells_by limit (Some top) g)
      ≡ len (retain_keys old_cells (λ p. is_above limit (Some top) p.slot)) + cond (is_none (get old_cells set_at)) 1 0
  change_len =
      let left : ArchiveCells = retain_keys old_cells (λ p. is_above limit (Some top) p.slot) in
      ap len (change_cells ∙ trimmed_by_slots limit (insert old_cells set_at e.contribution) (Some top) newest_is
      ∙ same_map cell_slot_cmp_total cell_slot_cmp-IsAntisymmetric _ _ (λ q.
      get-retain_keys (insert old_cells set_at e.contribution) _ q (alike q)
      ∙ ap (λ o. cond (is_above limit (Some top) q.slot) o None)
      (get-insert cell_slot_cmp_total old_cells set_at e.contribution q)
      ∙ by_tie q (eq_by_cmp cell_slot_cmp q set_at) refl
      ∙ ap (λ o. cond (eq_by_cmp cell_slot_cmp q set_at) (Some e.contribution) o)
      (sym (get-retain_keys old_cells _ q (alike q)))
      ∙ sym (get-insert cell_slot_cmp_total left set_at e.contribution q)))
      ∙ sym (len_with left set_at e.contribution)
      ∙ ap (λ o. len left + cond (is_none o) 1 0) (get-retain_keys old_cells _ set_at (alike set_at)
      ∙ ap (λ b. cond b (get old_cells set_at) None) alive)
    where
      alike : (q x : CellSlot) → cell_slot_cmp q x ≡ Equal
          → is_above limit (Some top) x.slot ≡ is_above limit (Some top) q.slot
      alike q x same = ap (λ (p : CellSlot). is_above limit (Some top) p.slot)
          (sym (cell_slot_cmp-IsAntisymmetric q x same))

      by_tie : (q : CellSlot) (b : Bool) → eq_by_cmp cell_slot_cmp q set_at ≡ b
          → cond (is_above limit (Some top) q.slot) (cond b (Some e.contribution) (get old_cells q)) None
          ≡ cond b (Some e.contribution) (cond (is_above limit (Some top) q.slot) (get old_cells q) None)
      by_tie q true t = ap (λ c. cond c (Some e.contribution) None)
          (ap (λ (p : CellSlot). is_above limit (Some top) p.slot)
          (same_from_tie cell_slot_cmp_total cell_slot_cmp-IsAntisymmetric q set_at t) ∙ alive)
      by_tie q false t = refl

  top_same : (t : ℤ) → Some top ≡ Some t → top ≡ t
  top_same t is = cc

  pub change_held : (after : ℕ) → after ≡ len (cells_by limit (Some top) g) → IsInRange set_at
      → IsArchiveStateBy limit (Some top) after g
  change_held after counted in_range =
      let more : ArchiveCells = insert old_cells set_at e.contribution in
      let cells = change_cells in
      record {
        counted = counted;
        latest = sym (ap (λ m. newest_of (keys m)) cells ∙ newest-trimmed limit more some ∙ newest_is);
        live = subst (IsTrimmed limit) (sym cells) (trimmed-trimmed cell_slot_cmp_total cell_slot_cmp-IsAntisymmetric
            (live_at_horizon limit some) more);
        in_range = subst AreInRange (sym cells) (in_range-trimmed limit more
            (in_range-insert old_cells set_at e.contribution in_range h.in_range));
        is_slot = λ t is. subst IsSlot (top_same t is) (later_is_slot newest slot top later in_range.slot h.is_slot);
        ascend = set.ascend;
        none_later = set.none_later;
      }

-- a cell past the horizon leaves no trace
pub change_dead : (limit : ℕ) (newest : Option ℤ) (count : ℕ) (f : ℤ → List Entry) (p : CellSlot) (c : Contribution)
    → IsArchiveStateBy limit newest count f → is_above limit newest p.slot ≡ false
    → cells_by limit newest f ≡ trimmed (is_live_at limit) (insert (cells_by limit newest f) p c)
change_dead limit newest count f p c h dead = sym
    (trimmed_dead limit (cells_by limit newest f) p c h.live (ap (λ o. is_above limit o p.slot) (sym h.latest) ∙ dead))

-- ---- no cells

pub cells_none : (limit : ℕ) (f : ℤ → List Entry) → ((s : ℤ) → f s ≡ []) → cells_by limit None f ≡ empty
cells_none limit f none = same_map cell_slot_cmp_total cell_slot_cmp-IsAntisymmetric _ _ (λ q.
    get-cells_by f limit None (λ s. ap ascends (none s)) (λ s _. ap is_empty (none s)) q
    ∙ ap (λ es. entry_at es q.origin) (none q.slot)
    ∙ sym (get-empty cell_slot_cmp q))

pub held_none : (limit : ℕ) (f : ℤ → List Entry) → ((s : ℤ) → f s ≡ []) → IsArchiveStateBy limit None 0 f
held_none limit f none =
    let cells = cells_none limit f none in
    record {
      counted = sym (ap len cells ∙ len-empty cell_slot_cmp Contribution);
      latest = ap (λ es. newest_of (map (λ e. e.0) es))
          (sym (entries-cells_by f limit None (λ s. ap ascends (none s))));
      live = subst (IsTrimmed limit) (sym cells) (trimmed_none limit);
      in_range = subst AreInRange (sym cells) (λ q has. absurd
          (true≢false (sym has ∙ contains_key-get empty q ∙ ap is_some (get-empty cell_slot_cmp q))));
      is_slot = λ t is. absurd cc;
      ascend = λ s. ap ascends (none s);
      none_later = λ s _. ap is_empty (none s);
    }
