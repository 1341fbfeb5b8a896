-- An entry set in a row of a ring: what shared its position is past the horizon.
use Rattle.std.proofs.Common.{◌≡◌, ℕ, ◌≤◌, ℤ, pos, ◌-ℤ◌, true, false, cond, List, [], refl, sym, ap, ◌∙◌, Option, Some, int_cmp, arith, eqb}
use Rattle.std.specs.Prelude.{int_lt}
use Rattle.std.specs.Ordering.{int_eq}
use Rattle.std.proofs.lemmas.Bool.{eqb-true}
use Rattle.std.proofs.lemmas.Bool.Decides.{nat_tests}
use Rattle.std.proofs.lemmas.Int.{ints}
use Rattle.rr_join.specs.Maps.{greater}
use Rattle.rr_join.specs.Horizon.{is_above}
use Rattle.rr_archive.specs.declared.entry.Entry.{Entry}
use Rattle.rr_archive.specs.Row.{with_entry, ascends}
use Rattle.rr_archive.specs.LiveRows.{is_empty, IsArchiveStateBy}
use Rattle.rr_archive.proofs.RowLemmas.{ascends_with_entry}
use Rattle.rr_archive.proofs.LiveRowsLemmas.{empty_is}
use Rattle.rr_archive.proofs.LiveChanges.{IsTop, top_is, still_live, same_slot, IsSetIn}
use Rattle.rr_ring.specs.Positions.{position_of}
use Rattle.rr_ring.specs.Ring.{IsRowChanged}
use Rattle.rr_ring.proofs.PositionLemmas.{one_slot}

module _ (limit : ℕ) (newest : Option ℤ) (count : ℕ) (top slot : ℤ) (e : Entry) (f g : ℤ → List Entry)
    (some : 1 ≤ limit) (h : IsArchiveStateBy limit newest count f) (changed : IsRowChanged limit slot e f g)
    (later : Some top ≡ greater int_cmp newest (Some slot)) (live : is_above limit newest slot ≡ true) where
  -- the entries of each slot then, by whether it is the slot that was changed
  entries_then : (s : ℤ) → g s ≡ cond (int_eq slot s) (with_entry (f slot) e)
      (cond (eqb (position_of limit slot) (position_of limit s)) [] (f s))
  entries_then s = changed s ∙ elim (int_eq slot s) as
      (λ b. int_eq slot s ≡ b → cond (eqb (position_of limit s) (position_of limit slot))
      (cond b (with_entry (f slot) e) []) (f s) ≡ cond b (with_entry (f slot) e)
      (cond (eqb (position_of limit slot) (position_of limit s)) [] (f s))) [
        | true ↦ λ t. ap (λ b. cond b (with_entry (f slot) e) (f s))
            (ap (λ z. eqb (position_of limit z) (position_of limit slot)) (sym (same_slot slot s t))
            ∙ itself (position_of limit slot))
        | false ↦ λ _. ap (λ b. cond b [] (f s)) (swap (position_of limit s) (position_of limit slot))
      ] refl
    where
      itself : (n : ℕ) → eqb n n ≡ true
      itself n = grind (arith, nat_tests)

      swap : (m n : ℕ) → eqb m n ≡ eqb n m
      swap m n = grind (arith, nat_tests)

  is_top : IsTop newest slot top
  is_top = top_is newest slot top later

  alive : int_lt (top -ℤ pos limit) slot ≡ true
  alive = still_live limit newest top slot some later live

  -- what shared its position is past the horizon, or later than all
  left : (s : ℤ) → int_eq slot s ≡ false → eqb (position_of limit slot) (position_of limit s) ≡ true
      → int_lt (top -ℤ pos limit) s ≡ true → f s ≡ []
  left s apart shared low = elim (int_lt top s) as (λ b. int_lt top s ≡ b → f s ≡ []) [
    | true ↦ λ t. empty_is (f s) (h.none_later s (is_top.keeps s t))
    | false ↦ λ t. absurd (not_one slot s apart (one_slot limit top slot s some
        (eqb-true (position_of limit slot) (position_of limit s) shared) alive is_top.reaches low t))
  ] refl
    where
      not_one : (a b : ℤ) → int_eq a b ≡ false → a ≡ b → ⊥
      not_one a b h e = grind (arith, ints)

  g_none_later : (s : ℤ) → int_lt top s ≡ true → is_empty (g s) ≡ true
  g_none_later s after =
      ap is_empty (entries_then s)
      ∙ ap (λ b. is_empty (cond b (with_entry (f slot) e)
      (cond (eqb (position_of limit slot) (position_of limit s)) [] (f s)))) (other top slot s is_top.reaches after)
      ∙ elim (eqb (position_of limit slot) (position_of limit s)) as (λ b. is_empty (cond b [] (f s)) ≡ true) [
        | true ↦ refl
        | false ↦ h.none_later s (is_top.keeps s after)
      ]
    where
      other : (top slot s : ℤ) → int_lt top slot ≡ false → int_lt top s ≡ true → int_eq slot s ≡ false
      other top slot s p q = grind (arith, ints)

  g_ascends : (s : ℤ) → ascends (g s) ≡ true
  g_ascends s = ap ascends (entries_then s) ∙ elim
      (int_eq slot s) as (λ b. ascends (cond b (with_entry (f slot) e)
      (cond (eqb (position_of limit slot) (position_of limit s)) [] (f s))) ≡ true) [
        | true ↦ ascends_with_entry (f slot) e (h.ascend slot)
        | false ↦ elim (eqb (position_of limit slot) (position_of limit s)) as (λ b. ascends (cond b [] (f s)) ≡ true)
            [ true ↦ refl | false ↦ h.ascend s ]
      ]

  live_then : (s : ℤ) → int_lt (top -ℤ pos limit) s ≡ true → g s ≡ cond (int_eq slot s) (with_entry (f slot) e) (f s)
  live_then s low = entries_then s ∙ elim (int_eq slot s) as
      (λ b. int_eq slot s ≡ b → cond b (with_entry (f slot) e)
      (cond (eqb (position_of limit slot) (position_of limit s)) [] (f s)) ≡ cond b (with_entry (f slot) e) (f s)) [
        | true ↦ λ _. refl
        | false ↦ λ t. elim (eqb (position_of limit slot) (position_of limit s)) as
            (λ b. eqb (position_of limit slot) (position_of limit s) ≡ b → cond b [] (f s) ≡ f s) [
              | true ↦ λ shared. sym (left s t shared low)
              | false ↦ λ _. refl
            ] refl
      ] refl

  pub set_in_ring : IsSetIn limit top slot e f g
  set_in_ring = record { live = live_then; ascend = g_ascends; none_later = g_none_later }
