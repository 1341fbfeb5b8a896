-- What a cell more changes of the keys of a map, and how many cells there can be.
use Rattle.std.proofs.Common.{◌≡◌, ℕ, ◌+◌, ◌*◌, ◌<◌, ◌≤◌, ℤ, pos, negsuc, ◌+ℤ◌, Bool, true, false, cond, T, List, [], ◌∷◌, map, length, refl, sym, ap, ◌∙◌, subst, Some, is_some, Ordering, Less, Equal, Greater, int_cmp, nat_cmp, arith, ⊎_elim, ◌⊎◌, inl, inr}
use Rattle.std.specs.Prelude.{unsigned_abs, int_lt}
use Rattle.std.specs.List.{AllByRecursion}
use Rattle.std.specs.Ordering.{ordering_then, is_lt, eq_by_cmp}
use Rattle.std.specs.Cmp.{int_cmp_total}
use Rattle.std.specs.FinMap.{get, keys, entries, insert, len, len-entries, entries_sorted, entries-insert, get-insert, contains_key, contains_key-keys, is_sorted, int_cmp-IsAntisymmetric}
use Rattle.std.specs.FinMap.Entries.{by_order, below_all, put}
use Rattle.std.proofs.lemmas.Bool.{ltb-true, or_right}
use Rattle.std.proofs.lemmas.Bool.Decides.{nat_tests}
use Rattle.std.proofs.lemmas.Int.{ints}
use Rattle.rr_text.specs.declared.limits.TheConstants.{MAX_SECOND}
use Rattle.rr_join.specs.Maps.{greater}
use Rattle.rr_join.proofs.Booleans.{first_T, second_T, true_from_T}
use Rattle.rr_join.proofs.Greater.{greater_comm, greater_assoc, greater_itself, greater_swap}
use Rattle.rr_contrib.specs.declared.contribution.Contribution.{Contribution}
use Rattle.rr_join.proofs.Lookups.{is_in-keys}
use Rattle.rr_join.proofs.Members.{is_in, same_from_tie, head_in}
use Rattle.rr_archive.specs.CellSlots.{CellSlot, cell_slot_cmp, newest_of, IsSlot, IsInRange}
use Rattle.rr_archive.specs.Cells.{ArchiveCells, AreInRange}
use Rattle.rr_archive.proofs.CellSlotOrder.{cell_slot_cmp_total, cell_slot_cmp-IsAntisymmetric}

-- ---- one key more

abbrev keys_of : List (CellSlot × Contribution) → List CellSlot
keys_of es = map (λ e. e.0) es

newest_put : (p : CellSlot) (c : Contribution) (es : List (CellSlot × Contribution))
    → newest_of (keys_of (put cell_slot_cmp p c es)) ≡ greater int_cmp (Some p.slot) (newest_of (keys_of es))
newest_put p c [] = refl
newest_put p c (e ∷ es) = elim (cell_slot_cmp p e.0) as
    (λ r. cell_slot_cmp p e.0 ≡ r → newest_of (keys_of
    (by_order r ((p, c) ∷ e ∷ es) ((e.0, c) ∷ es) (e ∷ put cell_slot_cmp p c es)))
    ≡ greater int_cmp (Some p.slot) (newest_of (keys_of (e ∷ es)))) [
      | Less ↦ λ t. refl
      | Equal ↦ λ t.
          let rest = newest_of (keys_of es) in
          ap (λ g. greater int_cmp g rest) (sym (greater_itself int_cmp_total (Some e.0.slot)))
          ∙ greater_assoc int_cmp_total (Some e.0.slot) (Some e.0.slot) rest
          ∙ ap (λ (y : CellSlot). greater int_cmp (Some y.slot) (newest_of (keys_of (e ∷ es))))
          (sym (cell_slot_cmp-IsAntisymmetric p e.0 t))
      | Greater ↦ λ t.
          ap (greater int_cmp (Some e.0.slot)) (newest_put p c es)
          ∙ greater_swap int_cmp_total int_cmp-IsAntisymmetric (Some e.0.slot) (Some p.slot) (newest_of (keys_of es))
    ] refl

pub newest-insert : (m : ArchiveCells) (p : CellSlot) (c : Contribution)
    → newest_of (keys (insert m p c)) ≡ greater int_cmp (newest_of (keys m)) (Some p.slot)
newest-insert m p c =
    ap (λ es. newest_of (keys_of es)) (entries-insert cell_slot_cmp_total m p c)
    ∙ newest_put p c (entries m)
    ∙ greater_comm int_cmp_total int_cmp-IsAntisymmetric (Some p.slot) (newest_of (keys m))

-- a map has a key exactly where it gives a value
pub contains_key-get : (m : ArchiveCells) (q : CellSlot) → contains_key m q ≡ is_some (get m q)
contains_key-get m q = contains_key-keys m q ∙ is_in-keys cell_slot_cmp_total cell_slot_cmp-IsAntisymmetric m q

pub in_range-insert : (m : ArchiveCells) (p : CellSlot) (c : Contribution) → IsInRange p → AreInRange m
    → AreInRange (insert m p c)
in_range-insert m p c here all = λ q has. by_tie q (eq_by_cmp cell_slot_cmp q p) refl
    (sym (contains_key-get (insert m p c) q ∙ ap is_some (get-insert cell_slot_cmp_total m p c q)) ∙ has)
  where
    by_tie : (q : CellSlot) (b : Bool) → eq_by_cmp cell_slot_cmp q p ≡ b → is_some (cond b (Some c) (get m q)) ≡ true
        → IsInRange q
    by_tie q true t e = subst IsInRange (sym (same_from_tie cell_slot_cmp_total cell_slot_cmp-IsAntisymmetric q p t))
        here
    by_tie q false t e = all q (contains_key-get m q ∙ e)

-- ---- how many there can be

-- a cell slot as a number, in order
code : CellSlot → ℕ
code p = unsigned_abs (p.slot +ℤ pos MAX_SECOND) * 65_536 + p.origin

-- more than any of them
abbrev pub most_cells : ℕ
most_cells = (2 * MAX_SECOND + 1) * 65_536

in_slots : (z : ℤ) → unsigned_abs z ≤ MAX_SECOND → unsigned_abs (z +ℤ pos MAX_SECOND) ≤ 2 * MAX_SECOND
in_slots (pos n) h = omega (arith, ints)
in_slots (negsuc n) h = omega (arith, ints)

slots_rise : (x y : ℤ) → unsigned_abs x ≤ MAX_SECOND → unsigned_abs y ≤ MAX_SECOND → int_lt x y ≡ true
    → unsigned_abs (x +ℤ pos MAX_SECOND) < unsigned_abs (y +ℤ pos MAX_SECOND)
slots_rise (pos a) (pos b) hx hy less = let below = ltb-true a b less in omega (arith, ints)
slots_rise (pos a) (negsuc b) hx hy less = absurd cc
slots_rise (negsuc a) (pos b) hx hy less = omega (arith, ints)
slots_rise (negsuc a) (negsuc b) hx hy less = let below = ltb-true b a less in omega (arith, ints)

within_second : (z : ℤ) → IsSlot z → unsigned_abs z ≤ MAX_SECOND
within_second (pos n) is = let high = is.1 in omega (arith, ints)
within_second (negsuc n) is = let low = is.0 in omega (arith, ints)

code_below : (p : CellSlot) → IsInRange p → code p < most_cells
unfolding code
code_below p h = let slot = in_slots p.slot (within_second p.slot h.slot) in let origin = h.origin.at_most in
    omega arith

-- of two cell slots in order the slot rises, or the origin in one slot
less_tells : (p q : CellSlot) → is_lt (cell_slot_cmp p q) ≡ true
    → (int_lt p.slot q.slot ≡ true) ⊎ ((p.slot ≡ q.slot) × (p.origin < q.origin))
less_tells p q less = ⊎_elim
    (λ e. inl (Less_tells p.slot q.slot e))
    (λ e. inr (int_cmp-IsAntisymmetric p.slot q.slot e.0, Less_origin p.origin q.origin e.1))
    (less_parts (int_cmp p.slot q.slot) (nat_cmp p.origin q.origin) less)
  where
    Less_tells : (x y : ℤ) → int_cmp x y ≡ Less → int_lt x y ≡ true
    Less_tells x y e = grind (arith, ints)

    Less_origin : (m n : ℕ) → nat_cmp m n ≡ Less → m < n
    Less_origin m n e = grind (arith, nat_tests)

    less_parts : (a b : Ordering) → is_lt (ordering_then a b) ≡ true → (a ≡ Less) ⊎ ((a ≡ Equal) × (b ≡ Less))
    less_parts Less b e = inl refl
    less_parts Equal Less e = inr (refl, refl)
    less_parts Equal Equal e = absurd cc
    less_parts Equal Greater e = absurd cc
    less_parts Greater b e = absurd cc

code_rises : (p q : CellSlot) → IsInRange p → IsInRange q → is_lt (cell_slot_cmp p q) ≡ true → code p < code q
unfolding code
code_rises p q hp hq less =
    let low = hp.origin.at_most in
    ⊎_elim
    (λ above. let rise = slots_rise p.slot q.slot (within_second p.slot hp.slot) (within_second q.slot hq.slot) above in
    omega arith)
    (λ same. let at = ap (λ z. unsigned_abs (z +ℤ pos MAX_SECOND)) same.0 in let rise = same.1 in omega arith)
    (less_tells p q less)

-- after a cell slot there are no more than fit
few_after : (es : List (CellSlot × Contribution)) (q : CellSlot) → T (is_sorted cell_slot_cmp es)
    → T (below_all cell_slot_cmp q es) → AllByRecursion IsInRange (keys_of es) → IsInRange q
    → code q + 1 + length es ≤ most_cells
few_after [] q sorted below all h = let most = code_below q h in omega arith
few_after (e ∷ es) q sorted below all h =
    let rest = few_after es e.0 (second_T (below_all cell_slot_cmp e.0 es) _ sorted) (first_T _ _ sorted) all.1 all.0 in
    let rise = code_rises q e.0 h all.0 (true_from_T _ (first_T _ _ below)) in
    omega arith

pub few_cells : (m : ArchiveCells) → AreInRange m → len m ≤ most_cells
few_cells m all = subst (λ n. n ≤ most_cells) (sym (len-entries m))
    (few (entries m) (entries_sorted m) (each (keys m) (λ q e. all q (contains_key-keys m q ∙ e))))
  where
    each : (ps : List CellSlot) → ((q : CellSlot) → is_in cell_slot_cmp ps q ≡ true → IsInRange q)
        → AllByRecursion IsInRange ps
    each [] f = tt
    each (p ∷ ps) f = (
      f p (head_in cell_slot_cmp_total cell_slot_cmp-IsAntisymmetric p ps),
      each ps (λ q e. f q (or_right (eq_by_cmp cell_slot_cmp q p) (is_in cell_slot_cmp ps q) e)),
    )

    few : (es : List (CellSlot × Contribution)) → T (is_sorted cell_slot_cmp es) → AllByRecursion IsInRange (keys_of es)
        → length es ≤ most_cells
    few [] sorted all = omega arith
    few (e ∷ es) sorted all =
        let most = few_after es e.0 (second_T (below_all cell_slot_cmp e.0 es) _ sorted) (first_T _ _ sorted) all.1
        all.0 in
        omega arith
