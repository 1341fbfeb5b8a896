-- Maps of live cell slots: what a cell more makes of them.
use Rattle.std.proofs.Common.{◌≡◌, ℕ, ◌≤◌, ℤ, pos, ◌-ℤ◌, Bool, true, false, cond, List, [], ◌∷◌, refl, sym, ap, ◌∙◌, true≢false, Option, Some, None, is_some, int_cmp, arith}
use Rattle.std.specs.Prelude.{int_lt}
use Rattle.std.specs.List.{filter}
use Rattle.std.specs.Ordering.{eq_by_cmp, ord_max}
use Rattle.std.specs.FinMap.{empty, get-empty, get, insert, keys, same_map, get-insert, retain_keys}
use Rattle.std.proofs.lemmas.Int.{ints}
use Rattle.rr_join.specs.Maps.{greater, trimmed}
use Rattle.rr_join.proofs.Members.{same_from_tie}
use Rattle.rr_join.proofs.Lookups.{get-trimmed}
use Rattle.rr_join.proofs.Keys.{keys-retain}
use Rattle.rr_contrib.specs.declared.contribution.Contribution.{Contribution}
use Rattle.rr_join.specs.Horizon.{is_above}
use Rattle.rr_archive.specs.CellSlots.{CellSlot, cell_slot_cmp, newest_of, is_live_at, IsInRange}
use Rattle.rr_archive.specs.Cells.{ArchiveCells, AreInRange, IsTrimmed}
use Rattle.rr_archive.proofs.CellSlotOrder.{cell_slot_cmp_total, cell_slot_cmp-IsAntisymmetric}
use Rattle.rr_archive.proofs.FewCells.{newest-insert, contains_key-get}

-- ---- the greatest slot above a bound

-- the slot, if it is above the bound
abbrev if_above : ℤ → Option ℤ → Option ℤ
if_above z None = None
if_above z (Some x) = cond (int_lt z x) (Some x) None

max_above : (z x y : ℤ) → greater int_cmp (cond (int_lt z x) (Some x) None) (cond (int_lt z y) (Some y) None)
    ≡ if_above z (Some (ord_max int_cmp x y))
max_above z x y =
    elim (int_lt z x) as (λ a. int_lt z x ≡ a → greater int_cmp (cond a (Some x) None) (cond (int_lt z y) (Some y) None)
    ≡ if_above z (Some (ord_max int_cmp x y))) [
      | true ↦ λ p. elim (int_lt z y) as (λ b. int_lt z y ≡ b
          → greater int_cmp (Some x) (cond b (Some y) None) ≡ if_above z (Some (ord_max int_cmp x y))) [
            | true ↦ λ q. ap (λ b. cond b (Some (ord_max int_cmp x y)) None) (sym (both z x y p q))
            | false ↦ λ q. (λ i. cond (sym (left z x y p q) i) (Some (sym (is_left z x y p q) i)) None)
          ] refl
      | false ↦ λ p. elim (int_lt z y) as (λ b. int_lt z y ≡ b
          → cond b (Some y) None ≡ if_above z (Some (ord_max int_cmp x y))) [
            | true ↦ λ q. (λ i. cond (sym (right z x y p q) i) (Some (sym (is_right z x y p q) i)) None)
            | false ↦ λ q. ap (λ b. cond b (Some (ord_max int_cmp x y)) None) (sym (neither z x y p q))
          ] refl
    ] refl
  where
    both : (z x y : ℤ) → int_lt z x ≡ true → int_lt z y ≡ true → int_lt z (ord_max int_cmp x y) ≡ true
    both z x y p q = grind (arith, ints)

    left : (z x y : ℤ) → int_lt z x ≡ true → int_lt z y ≡ false → int_lt z (ord_max int_cmp x y) ≡ true
    left z x y p q = grind (arith, ints)

    is_left : (z x y : ℤ) → int_lt z x ≡ true → int_lt z y ≡ false → ord_max int_cmp x y ≡ x
    is_left z x y p q = grind (arith, ints)

    right : (z x y : ℤ) → int_lt z x ≡ false → int_lt z y ≡ true → int_lt z (ord_max int_cmp x y) ≡ true
    right z x y p q = grind (arith, ints)

    is_right : (z x y : ℤ) → int_lt z x ≡ false → int_lt z y ≡ true → ord_max int_cmp x y ≡ y
    is_right z x y p q = grind (arith, ints)

    neither : (z x y : ℤ) → int_lt z x ≡ false → int_lt z y ≡ false → int_lt z (ord_max int_cmp x y) ≡ false
    neither z x y p q = grind (arith, ints)

newest_above : (z : ℤ) (ps : List CellSlot) → newest_of (filter (λ p. int_lt z p.slot) ps) ≡ if_above z (newest_of ps)
newest_above z [] = refl
newest_above z (p ∷ ps) =
    pushed (int_lt z p.slot) p (filter (λ q. int_lt z q.slot) ps)
    ∙ ap (greater int_cmp (cond (int_lt z p.slot) (Some p.slot) None)) (newest_above z ps)
    ∙ elim (newest_of ps) as (λ o. greater int_cmp (cond (int_lt z p.slot) (Some p.slot) None) (if_above z o)
    ≡ if_above z (greater int_cmp (Some p.slot) o)) [
      | None ↦ alone (cond (int_lt z p.slot) (Some p.slot) None)
      | Some y ↦ max_above z p.slot y
    ]
  where
    pushed : (b : Bool) (p : CellSlot) (ps : List CellSlot)
        → newest_of (cond b (p ∷ ps) ps) ≡ greater int_cmp (cond b (Some p.slot) None) (newest_of ps)
    pushed true p ps = refl
    pushed false p ps = refl

    alone : (o : Option ℤ) → greater int_cmp o None ≡ o
    alone None = refl
    alone (Some x) = refl

-- ---- a map, trimmed

module _ (limit : ℕ) where
  -- the keys of a trimmed map
  keys-trimmed : (m : ArchiveCells) → keys (trimmed (is_live_at limit) m) ≡ filter (is_live_at limit (keys m)) (keys m)
  unfolding trimmed
  keys-trimmed m = keys-retain cell_slot_cmp_total cell_slot_cmp-IsAntisymmetric m (is_live_at limit (keys m))

  pub trimmed_by_slots : (m : ArchiveCells) (top : Option ℤ) → newest_of (keys m) ≡ top
      → trimmed (is_live_at limit) m ≡ retain_keys m (λ p. is_above limit top p.slot)
  unfolding trimmed
  trimmed_by_slots m top is = ap (λ o. retain_keys m (λ p. is_above limit o p.slot)) is

  pub in_range-trimmed : (m : ArchiveCells) → AreInRange m → AreInRange (trimmed (is_live_at limit) m)
  in_range-trimmed m all = λ q has. by_live q (is_live_at limit (keys m) q)
      (sym (contains_key-get (trimmed (is_live_at limit) m) q
      ∙ ap is_some (get-trimmed cell_slot_cmp_total cell_slot_cmp-IsAntisymmetric (is_live_at limit) m q)) ∙ has)
    where
      by_live : (q : CellSlot) (b : Bool) → is_some (cond b (get m q) None) ≡ true → IsInRange q
      by_live q true e = all q (contains_key-get m q ∙ e)
      by_live q false e = absurd (true≢false (sym e))

  -- the newest slot stays
  pub newest-trimmed : (m : ArchiveCells) → 1 ≤ limit
      → newest_of (keys (trimmed (is_live_at limit) m)) ≡ newest_of (keys m)
  newest-trimmed m some = ap newest_of (keys-trimmed m)
      ∙ elim (newest_of (keys m)) as (λ o. newest_of (keys m) ≡ o
      → newest_of (filter (λ p. is_above limit o p.slot) (keys m)) ≡ o) [
        | None ↦ λ is. ap newest_of (all_pass (keys m)) ∙ is
        | Some top ↦ λ is. newest_above (top -ℤ pos limit) (keys m) ∙ ap (if_above (top -ℤ pos limit)) is
            ∙ ap (λ b. cond b (Some top) None) (below_itself top limit some)
      ] refl
    where
      all_pass : (ps : List CellSlot) → filter (λ _. true) ps ≡ ps
      all_pass [] = refl
      all_pass (p ∷ ps) = ap (λ l. p ∷ l) (all_pass ps)

      below_itself : (top : ℤ) (limit : ℕ) → 1 ≤ limit → int_lt (top -ℤ pos limit) top ≡ true
      below_itself top limit some = grind (arith, ints)

  none_either_way : (b : Bool) → ◌≡◌ {A = Option Contribution} (cond b None None) None
  none_either_way true = refl
  none_either_way false = refl

  abbrev nothing : ArchiveCells
  nothing = empty

  pub trimmed_none : IsTrimmed limit empty
  trimmed_none = same_map cell_slot_cmp_total cell_slot_cmp-IsAntisymmetric _ _ (λ q.
      get-trimmed cell_slot_cmp_total cell_slot_cmp-IsAntisymmetric (is_live_at limit) empty q
      ∙ ap (λ o. cond (is_live_at limit (keys nothing) q) o None) (get-empty cell_slot_cmp q)
      ∙ none_either_way (is_live_at limit (keys nothing) q)
      ∙ sym (get-empty cell_slot_cmp q))

  -- a cell past the horizon leaves no trace
  pub trimmed_dead : (m : ArchiveCells) (p : CellSlot) (c : Contribution) → IsTrimmed limit m
      → is_live_at limit (keys m) p ≡ false → trimmed (is_live_at limit) (insert m p c) ≡ m
  trimmed_dead m p c kept dead = same_map cell_slot_cmp_total cell_slot_cmp-IsAntisymmetric _ _ (λ q.
      let seen = ap (λ n. get n q) (sym kept) ∙ get-trimmed cell_slot_cmp_total cell_slot_cmp-IsAntisymmetric
      (is_live_at limit) m q in
      get-trimmed cell_slot_cmp_total cell_slot_cmp-IsAntisymmetric (is_live_at limit) (insert m p c) q
      ∙ (λ i. cond (is_above limit (newest_stays i) q.slot) (get-insert cell_slot_cmp_total m p c q i) None)
      ∙ elim (eq_by_cmp cell_slot_cmp q p) as (λ t. eq_by_cmp cell_slot_cmp q p ≡ t
      → cond (is_live_at limit (keys m) q) (cond t (Some c) (get m q)) None
      ≡ cond (is_live_at limit (keys m) q) (get m q) None) [
        | true ↦ λ t. let gone = ap (is_live_at limit (keys m))
            (same_from_tie cell_slot_cmp_total cell_slot_cmp-IsAntisymmetric q p t)
            ∙ dead in ap (λ b. cond b (Some c) None) gone ∙ sym (ap (λ b. cond b (get m q) None) gone)
        | false ↦ λ t. refl
      ] refl
      ∙ sym seen)
    where
      not_later : (top slot : ℤ) (n : ℕ) → int_lt (top -ℤ pos n) slot ≡ false → ord_max int_cmp top slot ≡ top
      not_later top slot n h = grind (arith, ints)

      newest_stays : newest_of (keys (insert m p c)) ≡ newest_of (keys m)
      newest_stays =
          newest-insert m p c
          ∙ elim (newest_of (keys m)) as (λ o. is_above limit o p.slot ≡ false → greater int_cmp o (Some p.slot) ≡ o) [
            | None ↦ λ h. absurd (true≢false h)
            | Some top ↦ λ h. ap (λ z. Some z) (not_later top p.slot limit h)
          ] dead
