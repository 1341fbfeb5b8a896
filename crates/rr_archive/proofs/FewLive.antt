-- An archive of live cells has at most so many as its rows times the origins of its cells.
use Rattle.std.proofs.Common.{◌≡◌, ℕ, zero, suc, ◌+◌, ◌*◌, ◌<◌, ◌≤◌, ℤ, pos, negsuc, ◌-ℤ◌, ◌≤ℤ◌, ◌<ℤ◌, Bool, true, false, cond, List, [], ◌∷◌, map, length, slice_get, refl, sym, ap, ◌∙◌, subst, true≢false, arith, eqb, ne_eqb, mul_comm, Some, None, is_some, int_cmp}
use Rattle.std.specs.Prelude.{int_lt, unsigned_abs, Contains}
use Rattle.std.specs.List.{list_any, AllByRecursion}
use Rattle.std.specs.List as lists
use Rattle.std.specs.Option.{unwrap_or}
use Rattle.std.specs.Ordering.{eq_by_cmp, ord_max}
use Rattle.std.specs.FinMap.{get, keys, contains_key, len-entries, entries}
use Rattle.std.proofs.lemmas.Bool.{eqb-true, eq-eqb, or_right, or_parts}
use Rattle.std.proofs.lemmas.Int.{ints}
use Rattle.std.proofs.lemmas.Nat.{mul-add-lt, same_from_place}
use Rattle.std.proofs.lemmas.Map.Keys.{IsDistinct-cons}
use Rattle.std.proofs.lemmas.Map.Steps.{length-le_from_distinct_below}
use Rattle.rr_join.specs.Maps.{greater}
use Rattle.rr_join.proofs.Booleans.{either_case}
use Rattle.rr_join.proofs.Greater.{greatest_some}
use Rattle.rr_join.proofs.Members.{is_in, same_from_tie, tie_itself, head_in}
use Rattle.rr_join.proofs.Lookups.{is_in-keys, get-trimmed}
use Rattle.rr_join.proofs.Distinct.{IsDistinct, keys_distinct}
use Rattle.rr_join.proofs.Distinct.IsDistinct.{more}
use Rattle.rr_join.specs.Horizon.{is_above}
use Rattle.rr_archive.specs.CellSlots.{CellSlot, cell_slot_cmp, newest_of, is_live_at}
use Rattle.rr_archive.specs.Cells.{ArchiveCells, IsTrimmed}
use Rattle.rr_archive.specs.Laws.{CellsAreFew}
use Rattle.rr_archive.proofs.CellSlotOrder.{cell_slot_cmp_total, cell_slot_cmp-IsAntisymmetric}

-- ---- no slot is above the newest

Some_inj : (x y : ℤ) → Some x ≡ Some y → x ≡ y
Some_inj x y e = ap (λ v. unwrap_or v x) e

none_newest : (ps : List CellSlot) → newest_of ps ≡ None → (p : CellSlot) → is_in cell_slot_cmp ps p ≡ false
none_newest [] e p = refl
none_newest (x ∷ xs) e p = absurd (true≢false (sym
    (ap is_some (greatest_some int_cmp x.slot (map (λ q. q.slot) xs) (pos 0))) ∙ ap is_some e))

not_above_max : (x y z : ℤ) → int_lt (ord_max int_cmp x y) z ≡ true → (int_lt x z ≡ true) × (int_lt y z ≡ true)
not_above_max x y z h = (grind (arith, ints), grind (arith, ints))

not_above_itself : (x : ℤ) → int_lt x x ≡ false
not_above_itself x = grind (arith, ints)

newest_is_last : (ps : List CellSlot) (top : ℤ) → newest_of ps ≡ Some top → (p : CellSlot)
    → is_in cell_slot_cmp ps p ≡ true → int_lt top p.slot ≡ true → true ≡ false
newest_is_last [] top e p is above = absurd (true≢false (sym is))
newest_is_last (q ∷ ps) top e p is above =
    elim (newest_of ps) as (λ g. newest_of ps ≡ g → greater int_cmp (Some q.slot) g ≡ Some top → true ≡ false) [
      | None ↦ λ g e. either_case (eq_by_cmp cell_slot_cmp p q) (is_in cell_slot_cmp ps p) is
          (λ t. sym above ∙ (λ i. int_lt (sym (Some_inj q.slot top e) i)
          (same_from_tie cell_slot_cmp_total cell_slot_cmp-IsAntisymmetric p q t i).slot) ∙ not_above_itself q.slot)
          (λ h. absurd (true≢false (sym h ∙ none_newest ps g p)))
      | Some y ↦ λ g e.
          let beyond = not_above_max q.slot y p.slot (subst (λ z. int_lt z p.slot ≡ true)
          (sym (Some_inj (ord_max int_cmp q.slot y) top e)) above) in
          either_case (eq_by_cmp cell_slot_cmp p q) (is_in cell_slot_cmp ps p) is
          (λ t. sym beyond.0 ∙ ap (λ (r : CellSlot). int_lt q.slot r.slot)
          (same_from_tie cell_slot_cmp_total cell_slot_cmp-IsAntisymmetric p q t) ∙ not_above_itself q.slot)
          (λ h. newest_is_last ps y g p h beyond.1)
    ] refl e

-- ---- the distance from the newest slot

abs_below : (z : ℤ) (n : ℕ) → pos 0 ≤ℤ z → z <ℤ pos n → unsigned_abs z < n
abs_below (pos a) n p q = omega (arith, ints)
abs_below (negsuc a) n p q = absurd (omega (arith, ints))

within_rows : (top slot : ℤ) (rows : ℕ) → int_lt (top -ℤ pos rows) slot ≡ true → int_lt top slot ≡ false
    → unsigned_abs (top -ℤ slot) < rows
within_rows top slot rows p q = abs_below (top -ℤ slot) rows (omega (arith, ints)) (omega (arith, ints))

as_pos : (z : ℤ) → pos 0 ≤ℤ z → z ≡ pos (unsigned_abs z)
as_pos (pos n) h = refl
as_pos (negsuc n) h = absurd (omega (arith, ints))

not_below : (top a : ℤ) → int_lt top a ≡ false → pos 0 ≤ℤ (top -ℤ a)
not_below top a p = omega (arith, ints)

one_slot : (top a b : ℤ) → (top -ℤ a) ≡ (top -ℤ b) → a ≡ b
one_slot top a b e = omega (arith, ints)

same_distance : (top a b : ℤ) → int_lt top a ≡ false → int_lt top b ≡ false
    → unsigned_abs (top -ℤ a) ≡ unsigned_abs (top -ℤ b) → a ≡ b
same_distance top a b p q e = one_slot top a b (as_pos (top -ℤ a) (not_below top a p) ∙ ap pos e
    ∙ sym (as_pos (top -ℤ b) (not_below top b q)))

length-map : {A B : Type 0} (f : A → B) (xs : List A) → length (map f xs) ≡ length xs
length-map f [] = refl
length-map f (x ∷ xs) = ap suc (length-map f xs)

-- ---- the place of an origin in a list of them

place_in : List ℕ → ℕ → ℕ
place_in [] o = 0
place_in (x ∷ xs) o = cond (eqb x o) 0 (suc (place_in xs o))

record IsPlaceOf (os : List ℕ) (o : ℕ) : Type 0 where
  within : place_in os o < length os
  there : slice_get os (place_in os o) ≡ Some o

-- behind another
behind : (x : ℕ) (xs : List ℕ) (o : ℕ) → eqb x o ≡ false → Contains (x ∷ xs) o → Contains xs o
behind x xs o e (zero, below, at) = absurd (true≢false (sym (eq-eqb x o at) ∙ e))
behind x xs o e (suc k, below, at) = (k, omega (arith, below), at)

place_at : (x : ℕ) (xs : List ℕ) (o : ℕ) (b : Bool) → eqb x o ≡ b → (b ≡ false → IsPlaceOf xs o) → IsPlaceOf (x ∷ xs) o
unfolding place_in
place_at x xs o true e rest = record {
  within = rw (e) (omega arith);
  there = rw (e) (ap Some (eqb-true x o e));
}
place_at x xs o false e rest = record {
  within = rw (e) (let w = (rest refl).within in omega (arith, w));
  there = rw (e) ((rest refl).there);
}

find_place : (os : List ℕ) (o : ℕ) → Contains os o → IsPlaceOf os o
find_place [] o (k, below, at) = absurd (omega (arith, below))
find_place (x ∷ xs) o has = place_at x xs o (eqb x o) refl (λ e. find_place xs o (behind x xs o e has))

-- ---- a cell slot as a number below the rows times the origins

code : List ℕ → ℤ → CellSlot → ℕ
code origins top p = unsigned_abs (top -ℤ p.slot) * length origins + place_in origins p.origin

record Fits (rows : ℕ) (origins : List ℕ) (top : ℤ) (p : CellSlot) : Type 0 where
  listed : IsPlaceOf origins p.origin
  below : int_lt top p.slot ≡ false
  near : unsigned_abs (top -ℤ p.slot) < rows

module _ (rows : ℕ) (origins : List ℕ) (top : ℤ) where
  code_below : (p : CellSlot) → Fits rows origins top p → code origins top p < rows * length origins
  unfolding code
  code_below p f =
      subst (λ n. unsigned_abs (top -ℤ p.slot) * length origins + place_in origins p.origin < n)
      (mul_comm (length origins) rows)
      (mul-add-lt (unsigned_abs (top -ℤ p.slot)) (length origins) (place_in origins p.origin) rows f.near
      f.listed.within)

  one_code : (p q : CellSlot) → Fits rows origins top p → Fits rows origins top q
      → code origins top p ≡ code origins top q → p ≡ q
  unfolding code
  one_code p q f g e =
      let parts = same_from_place (unsigned_abs (top -ℤ p.slot)) (place_in origins p.origin)
      (unsigned_abs (top -ℤ q.slot)) (place_in origins q.origin) (length origins) f.listed.within g.listed.within
      e in
      let slots = same_distance top p.slot q.slot f.below g.below parts.0 in
      let one : p.origin ≡ q.origin = Some_one p.origin q.origin
      (sym f.listed.there ∙ ap (slice_get origins) parts.1 ∙ g.listed.there) in
      λ i. record { slot = slots i; origin = one i }
    where
      Some_one : (a b : ℕ) → Some a ≡ Some b → a ≡ b
      Some_one a b e = ap (λ v. unwrap_or v a) e

  abbrev AllFit : List CellSlot → Type 0
  AllFit ps = (p : CellSlot) → is_in cell_slot_cmp ps p ≡ true → Fits rows origins top p

  head_fits : (p : CellSlot) (ps : List CellSlot) → AllFit (p ∷ ps) → Fits rows origins top p
  head_fits p ps f = f p (head_in cell_slot_cmp_total cell_slot_cmp-IsAntisymmetric p ps)

  rest_fits : (p : CellSlot) (ps : List CellSlot) → AllFit (p ∷ ps) → AllFit ps
  rest_fits p ps f = λ q e. f q (or_right (eq_by_cmp cell_slot_cmp q p) (is_in cell_slot_cmp ps q) e)

  codes_apart : (x : CellSlot) (ps : List CellSlot) → Fits rows origins top x → AllFit ps
      → is_in cell_slot_cmp ps x ≡ false → AllByRecursion (λ y. eqb (code origins top x) y ≡ false)
      (map (code origins top) ps)
  codes_apart x [] fx f h = tt
  codes_apart x (p ∷ ps) fx f h =
      let neither = or_parts (eq_by_cmp cell_slot_cmp x p) (is_in cell_slot_cmp ps x) h in (
        ne_eqb (code origins top x) (code origins top p)
            (λ e. true≢false (sym (subst (λ y. eq_by_cmp cell_slot_cmp x y ≡ true)
            (one_code x p fx (head_fits p ps f) e) (tie_itself cell_slot_cmp_total cell_slot_cmp-IsAntisymmetric x))
            ∙ neither.0)),
        codes_apart x ps fx (rest_fits p ps f) neither.1,
      )

  codes_distinct : (ps : List CellSlot) → IsDistinct cell_slot_cmp ps → AllFit ps
      → lists.IsDistinct eqb (map (code origins top) ps)
  unfolding lists.IsDistinct
  codes_distinct [] d f = tt
  codes_distinct (p ∷ ps) (more apart d) f =
      IsDistinct-cons eqb (code origins top p) (map (code origins top) ps)
      (codes_apart p ps (head_fits p ps f) (rest_fits p ps f) apart)
      (codes_distinct ps d (rest_fits p ps f))

  all_below : (ps : List CellSlot) → AllFit ps → (q : ℕ) → list_any (eqb q) (map (code origins top) ps) ≡ true
      → q < rows * length origins
  all_below [] f q e = absurd (true≢false (sym e))
  all_below (p ∷ ps) f q e = either_case (eqb q (code origins top p)) (list_any (eqb q) (map (code origins top) ps)) e
      (λ t. subst (λ n. n < rows * length origins) (sym (eqb-true q (code origins top p) t))
      (code_below p (head_fits p ps f)))
      (λ h. all_below ps (rest_fits p ps f) q h)

  few : (ps : List CellSlot) → IsDistinct cell_slot_cmp ps → AllFit ps → length ps ≤ rows * length origins
  few ps d f = subst (λ n. n ≤ rows * length origins) (length-map (code origins top) ps)
      (length-le_from_distinct_below (map (code origins top) ps) (rows * length origins) (codes_distinct ps d f)
      (all_below ps f))

-- ---- the cell slots of a trimmed map

live_there : (rows : ℕ) (m : ArchiveCells) → IsTrimmed rows m → (p : CellSlot) → contains_key m p ≡ true
    → is_live_at rows (keys m) p ≡ true
live_there rows m kept p e = elim (is_live_at rows (keys m) p) as (λ b. is_live_at rows (keys m) p ≡ b → b ≡ true) [
  | true ↦ λ _. refl
  | false ↦ λ h. sym (ap is_some (sym (ap (λ n. get n p) kept)
      ∙ get-trimmed cell_slot_cmp_total cell_slot_cmp-IsAntisymmetric (is_live_at rows) m p
      ∙ ap (λ b. cond b (get m p) None) h)) ∙ e
] refl

above_top : (rows : ℕ) (ps : List CellSlot) (top : ℤ) (p : CellSlot) → newest_of ps ≡ Some top
    → is_live_at rows ps p ≡ true → int_lt (top -ℤ pos rows) p.slot ≡ true
above_top rows ps top p e h = ap (λ g. is_above rows g p.slot) (sym e) ∙ h

nothing_long : (ps : List CellSlot) (n : ℕ) → newest_of ps ≡ None → length ps ≤ n
nothing_long [] n e = omega arith
nothing_long (x ∷ xs) n e = absurd (true≢false (sym (head_in cell_slot_cmp_total cell_slot_cmp-IsAntisymmetric x xs)
    ∙ none_newest (x ∷ xs) e x))

pub cells_are_few : CellsAreFew
cells_are_few rows origins m kept of =
    subst (λ n. n ≤ rows * length origins) (length-map (λ e. e.0) (entries m) ∙ sym (len-entries m))
    (elim (newest_of (keys m)) as (λ g. newest_of (keys m) ≡ g → length (keys m) ≤ rows * length origins) [
      | None ↦ λ e. nothing_long (keys m) (rows * length origins) e
      | Some top ↦ λ e. few rows origins top (keys m) (keys_distinct m) (λ p is.
          let here = sym (is_in-keys cell_slot_cmp_total cell_slot_cmp-IsAntisymmetric m p) ∙ is in
          let below = elim (int_lt top p.slot) as (λ b. int_lt top p.slot ≡ b → b ≡ false)
          [ true ↦ λ h. newest_is_last (keys m) top e p is h | false ↦ λ h. refl ] refl in
          record {
            listed = find_place origins p.origin (of p here);
            below = below;
            near =
                within_rows top p.slot rows (above_top rows (keys m) top p e (live_there rows m kept p here)) below;
          })
    ] refl)
