-- What is kept with the rows, when a cell is set.
use Rattle.std.proofs.Common.{◌≡◌, ℕ, ◌+◌, ◌≤◌, ℤ, true, false, cond, List, [], ◌∷◌, map, length, refl, sym, ap, ◌∙◌, subst, Option, Some, None, is_some, int_cmp, arith, true≢false, add-zero}
use Rattle.std.specs.Prelude.{is_none}
use Rattle.std.specs.Global.{Vec}
use Rattle.std.specs.FinMap.{empty, get, insert, keys, len, len-insert, get-insert, get-empty, len-empty, len-entries, entries, same_map, retain_keys}
use Rattle.rr_join.specs.Maps as Maps
use Rattle.rr_join.specs.Maps.{greater, map_of, trimmed}
use Rattle.rr_join.proofs.Lookups.{get-merged}
use Rattle.rr_join.proofs.Greater.{greater-None}
use Rattle.rr_join.proofs.Members.{same_from_tie}
use Rattle.rr_contrib.specs.declared.contribution.Contribution.{Contribution}
use Rattle.rr_contrib.specs.Contributions.{contribution_cmp}
use Rattle.std.specs.Ordering.{eq_by_cmp}
use Rattle.rr_archive.specs.declared.entry.Entry.{Entry}
use Rattle.rr_join.specs.Horizon.{is_above}
use Rattle.rr_archive.specs.CellSlots.{CellSlot, cell_slot_cmp, newest_of, is_live_at, IsInRange}
use Rattle.rr_archive.specs.Changes.{greater_of}
use Rattle.rr_archive.specs.Cells.{ArchiveCells, AreInRange, with_cell, join_cell, IsTrimmed}
use Rattle.rr_archive.specs.ArchiveState.{cells_in, IsArchiveState}
use Rattle.rr_archive.proofs.CellSlotOrder.{cell_slot_cmp_total, cell_slot_cmp-IsAntisymmetric}
use Rattle.rr_join.proofs.Joining.{trimmed-trimmed}
use Rattle.rr_archive.proofs.Horizon.{live_at_horizon}
use Rattle.rr_archive.proofs.FewCells.{newest-insert, in_range-insert, contains_key-get}
use Rattle.rr_archive.proofs.Trimming.{trimmed_by_slots, trimmed_none, in_range-trimmed, newest-trimmed, trimmed_dead}

-- one cell more, where none stood
pub len_with : (m : ArchiveCells) (p : CellSlot) (c : Contribution)
    → len m + cond (is_none (get m p)) 1 0 ≡ len (insert m p c)
len_with m p c =
    elim (get m p) as (λ o. get m p ≡ o → len m + cond (is_none o) 1 0 ≡ cond (is_some o) (len m) (len m + 1)) [
      | None ↦ λ _. refl
      | Some v ↦ λ _. add-zero (len m)
    ] refl
    ∙ ap (λ b. cond b (len m) (len m + 1)) (sym (contains_key-get m p))
    ∙ sym (len-insert cell_slot_cmp_total m p c)

latest_is : (limit count : ℕ) (newest : Option ℤ) (latest : ℤ) (old : List (ℤ × Vec Entry)) (p : CellSlot)
    (c : Contribution) → IsArchiveState limit count newest old → Some latest ≡ greater int_cmp newest (Some p.slot)
    → Some latest ≡ newest_of (keys (insert (cells_in old) p c))
latest_is limit count newest latest old p c h later = later ∙ ap (λ g. greater int_cmp g (Some p.slot)) h.latest
    ∙ sym (newest-insert (cells_in old) p c)

-- they hold the live cells of those that were there and the one that was set
pub cells_kept : (limit count : ℕ) (newest : Option ℤ) (latest : ℤ) (old set new : List (ℤ × Vec Entry)) (p : CellSlot)
    (c : Contribution) → IsArchiveState limit count newest old → cells_in set ≡ insert (cells_in old) p c
    → cells_in new ≡ retain_keys (cells_in set) (λ q. is_above limit (Some latest) q.slot)
    → Some latest ≡ greater int_cmp newest (Some p.slot)
    → cells_in new ≡ trimmed (is_live_at limit) (insert (cells_in old) p c)
cells_kept limit count newest latest old set new p c h is kept later =
    kept ∙ ap (λ (m : ArchiveCells). retain_keys m (λ q. is_above limit (Some latest) q.slot)) is
    ∙ sym (trimmed_by_slots limit (insert (cells_in old) p c) (Some latest)
    (sym (latest_is limit count newest latest old p c h later)))

-- the rows that are left, once a cell is set and the dead rows have left
pub held_kept : (limit count left : ℕ) (newest : Option ℤ) (latest : ℤ) (old set new : List (ℤ × Vec Entry))
    (p : CellSlot) (c : Contribution) → IsArchiveState limit count newest old → IsInRange p
    → cells_in set ≡ insert (cells_in old) p c → cells_in new
    ≡ retain_keys (cells_in set) (λ q. is_above limit (Some latest) q.slot) → left ≡ len (cells_in new)
    → Some latest ≡ greater int_cmp newest (Some p.slot) → IsArchiveState limit left (Some latest) new
held_kept limit count left newest latest old set new p c h in_range is kept counted later =
    let cells = cells_kept limit count newest latest old set new p c h is kept later in
    let more : ArchiveCells = insert (cells_in old) p c in
    let top = latest_is limit count newest latest old p c h later in
    let same = newest-trimmed limit more h.rows_at_least ∙ sym top in
    record {
      rows_at_least = h.rows_at_least;
      counted = counted;
      latest = sym (ap (λ m. newest_of (keys m)) cells ∙ same);
      live = subst (IsTrimmed limit) (sym cells) (trimmed-trimmed cell_slot_cmp_total cell_slot_cmp-IsAntisymmetric
          (live_at_horizon limit h.rows_at_least) more);
      in_range = subst AreInRange (sym cells) (in_range-trimmed limit more
          (in_range-insert (cells_in old) p c in_range h.in_range));
    }

-- a cell past the horizon leaves no trace
pub set_dead : (limit count : ℕ) (newest : Option ℤ) (rows : List (ℤ × Vec Entry)) (p : CellSlot) (c : Contribution)
    → IsArchiveState limit count newest rows → is_above limit newest p.slot ≡ false
    → cells_in rows ≡ trimmed (is_live_at limit) (insert (cells_in rows) p c)
set_dead limit count newest rows p c h dead = sym
    (trimmed_dead limit (cells_in rows) p c h.live (ap (λ o. is_above limit o p.slot) (sym h.latest) ∙ dead))

-- the same cells in other rows
pub held_same : (limit count : ℕ) (newest : Option ℤ) (old new : List (ℤ × Vec Entry))
    → IsArchiveState limit count newest old → cells_in new ≡ cells_in old → IsArchiveState limit count newest new
held_same limit count newest old new h is = record {
  rows_at_least = h.rows_at_least;
  live = subst (IsTrimmed limit) (sym is) h.live;
  counted = h.counted ∙ ap len (sym is);
  latest = h.latest ∙ ap (λ m. newest_of (keys m)) (sym is);
  in_range = subst AreInRange (sym is) h.in_range;
}

-- nothing, in no rows
pub cells_in-none : cells_in [] ≡ empty
unfolding cells_in map_of
cells_in-none = refl

abbrev nothing : ArchiveCells
nothing = empty

keys-empty : keys nothing ≡ []
keys-empty = ap (map (λ e. e.0)) (nothing_from_length (entries nothing)
    (sym (len-entries nothing) ∙ len-empty cell_slot_cmp Contribution))
  where
    nothing_from_length : (es : List (CellSlot × Contribution)) → length es ≡ 0 → es ≡ []
    nothing_from_length [] e = refl
    nothing_from_length (x ∷ es) e = absurd (omega arith)

pub held_none : (limit : ℕ) (rows : List (ℤ × Vec Entry)) → 1 ≤ limit → rows ≡ [] → IsArchiveState limit 0 None rows
held_none limit rows some e = subst (IsArchiveState limit 0 None) (sym e) (record {
  rows_at_least = some;
  live = subst (IsTrimmed limit) (sym cells_in-none) (trimmed_none limit);
  counted = sym (len-empty cell_slot_cmp Contribution) ∙ ap len (sym cells_in-none);
  latest = ap newest_of (sym keys-empty) ∙ ap (λ m. newest_of (keys m)) (sym cells_in-none);
  in_range = subst AreInRange (sym cells_in-none)
      (λ q has. absurd (true≢false (sym has ∙ contains_key-get empty q ∙ ap is_some (get-empty cell_slot_cmp q))));
})

-- ---- a cell joined in

pub with_cell-is : (m : ArchiveCells) (p : CellSlot) (c joined : Contribution)
    → Some joined ≡ greater contribution_cmp (get m p) (Some c) → insert m p joined ≡ with_cell m p c
with_cell-is m p c joined is = same_map cell_slot_cmp_total cell_slot_cmp-IsAntisymmetric _ _ (λ q.
    get-insert cell_slot_cmp_total m p joined q
    ∙ elim (eq_by_cmp cell_slot_cmp q p) as (λ b. eq_by_cmp cell_slot_cmp q p ≡ b
    → cond b (Some joined) (get m q) ≡ greater contribution_cmp (get m q) (cond b (Some c) None)) [
      | true ↦ λ t. is ∙ ap (λ r. greater contribution_cmp (get m r) (Some c))
          (sym (same_from_tie cell_slot_cmp_total cell_slot_cmp-IsAntisymmetric q p t))
      | false ↦ λ t. sym (greater-None contribution_cmp (get m q))
    ] refl
    ∙ ap (λ o. greater contribution_cmp (get m q) (cond (eq_by_cmp cell_slot_cmp q p) (Some c) o))
    (sym (get-empty cell_slot_cmp q))
    ∙ ap (greater contribution_cmp (get m q)) (sym (get-insert cell_slot_cmp_total empty p c q))
    ∙ sym (get-merged cell_slot_cmp_total cell_slot_cmp-IsAntisymmetric contribution_cmp m (insert empty p c) q))

-- and then the live ones
pub join_cell-is : (limit : ℕ) (m : ArchiveCells) (p : CellSlot) (c : Contribution)
    → trimmed (is_live_at limit) (insert m p (greater_of (get m p) c)) ≡ join_cell limit m p c
unfolding Maps.joined
join_cell-is limit m p c = ap (trimmed (is_live_at limit))
    (with_cell-is m p c (greater_of (get m p) c) (greater_is (get m p)))
  where
    greater_is : (known : Option Contribution) → Some (greater_of known c) ≡ greater contribution_cmp known (Some c)
    greater_is None = refl
    greater_is (Some a) = refl
