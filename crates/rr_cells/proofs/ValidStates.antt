-- What is known of samples within the limits makes cells of the schema.
use Rattle.std.proofs.Common.{◌≡◌, ℕ, zero, suc, ◌+◌, ◌^◌, ◌<◌, ◌≤◌, ℤ, pos, negsuc, Bool, true, false, ◌&&◌, ◌||◌, refl, sym, ap, ◌∙◌, subst, arith, true≢false, length, Option, Some, None, is_some}
use Rattle.std.specs.Prelude.{nat_lt, ◌==◌, FitsSigned, IsTrue}
use Rattle.std.specs.Int.{w64}
use Rattle.std.specs.List.{list_any}
use Rattle.std.specs.Option.{unwrap_or}
use Rattle.std.specs.Ordering.{eq_by_cmp}
use Rattle.std.specs.FinMap.{get, keys, entries, insert, retain_keys}
use Rattle.std.proofs.lemmas.Bool.{eqb-true, eq-eqb, ltb-true, ltb-false}
use Rattle.std.proofs.lemmas.Int.{ints}
use Rattle.std.proofs.lemmas.List.Elements.{All-from_recursion}
use Rattle.rr_text.specs.declared.limits.TheConstants.{MAX_NUMBER}
use Rattle.rr_text.specs.Text.{fits_i64}
use Rattle.rr_schema.specs.Origin.{IsOrigin}
use Rattle.rr_schema.specs.Schema.{Layout, IsLayout}
use Rattle.rr_join.proofs.Booleans.{and_first, and_second}
use Rattle.rr_join.proofs.Members.{same_from_tie, tie_itself, found_of, any_from}
use Rattle.rr_contrib.specs.declared.contribution.Contribution.{Contribution}
use Rattle.rr_contrib.specs.Contributions.{contribution_with}
use Rattle.rr_contrib.specs.Validity.{IsValid}
use Rattle.rr_contrib.proofs.KeepsValidLemmas.{Falls, place_below, of_one_valid, with_sample_valid}
use Rattle.rr_archive.specs.CellSlots.{IsSlot}
use Rattle.rr_key.specs.Series.{IsKeyText}
use Rattle.rr_cells.specs.CellNames.{CellName, cell_name_cmp}
use Rattle.rr_cells.specs.Samples.{Sample, Mark, mark_cmp, name_of}
use Rattle.rr_cells.specs.Knowledge.{Knowledge, knows, is_live_in, cell}
use Rattle.rr_cells.specs.World.{World, IsWritten, IsMarkOf}
use Rattle.rr_cells.proofs.Horizon.{archive_is}
use Rattle.rr_cells.proofs.Knowing.{same_knowledge, is_in-keys_of, knows-retain, knows-cell, name_from_tie}
use Rattle.rr_cells.proofs.Orders.{mark_cmp_total, mark_cmp-IsAntisymmetric}
use Rattle.rr_cells.specs.CellBounds.{IsCellOf, IsSoundSample}
use Rattle.rr_cells.specs.Laws.{StatesAreValid}
use Rattle.rr_cells.specs.Puts.{slot_sample_of}
use Rattle.rr_cells.specs.State.{cells_of_knowledge}
use Rattle.rr_cells.proofs.CellBoundsLemmas.{HasBounds, bounds_with, cell_from}
use Rattle.rr_cells.proofs.HeldCells.{all_entries}
use Rattle.rr_cells.proofs.OneSampleMore.{knows-insert}
use Rattle.rr_cells.proofs.Slots.{slot_is}
use Rattle.rr_cells.proofs.States.{value, no_value, marked_by, get-state}
use Rattle.rr_cells.proofs.Values.{value-insert}

fits_from : (z : ℤ) → IsTrue (fits_i64 z) → FitsSigned w64 z
fits_from (pos n) h = let below = ltb-true n (2 ^ 63) h in omega (arith, ints, below)
fits_from (negsuc n) h = let below = ltb-true n (2 ^ 63) h in omega (arith, ints, below)

-- ---- the marks of one name, by their numbers

module _ (s : Layout) (is : IsLayout s) (n : CellName) where
  -- of a sample within the limits, in an archive of the schema
  record IsMarkAt (m : Mark) : Type 0 where
    named : name_of s m ≡ n
    within : m.archive < length s.archives
    sound : IsSoundSample m.sample

  -- their numbers tell them apart
  abbrev NumbersTell : Knowledge → Type 0
  NumbersTell c = (a b : Mark) → knows c a ≡ true → knows c b ≡ true → a.number ≡ b.number → a ≡ b

  abbrev IsGood : ℕ → Option Contribution → Type 0
  IsGood limit None = Unit {0}
  IsGood limit (Some v) = (v.version < limit) × IsValid s n.archive n.slot v × HasBounds v

  falls : (m : Mark) → IsMarkAt m → Falls s n.archive n.slot (slot_sample_of s m)
  falls m at = subst (λ (q : CellName). Falls s q.archive q.slot (slot_sample_of s m)) at.named (record {
    some_number = at.sound.some_number;
    known_number = at.sound.few_numbers;
    in_slot = refl;
    place = refl;
    within = place_below s m.archive m.time (archive_is s is m.archive).some_step;
  })

  -- a mark more, of a number above the others
  with_mark : (limit : ℕ) (o : Option Contribution) (m : Mark) → IsMarkAt m → limit ≤ m.number → IsGood limit o
      → IsGood (m.number + 1) (Some (contribution_with o (slot_sample_of s m)))
  with_mark limit None m at above good = (
    omega arith,
    of_one_valid s n.archive n.slot (slot_sample_of s m) (falls m at),
    bounds_with None (slot_sample_of s m) tt (fits_from m.time at.sound.time) (fits_from m.value at.sound.value),
  )
  with_mark limit (Some v) m at above good = (
    omega arith,
    with_sample_valid s n.archive n.slot v (slot_sample_of s m) good.1 (falls m at)
        (let below = good.0 in omega (arith, below, above)),
    bounds_with (Some v) (slot_sample_of s m) good.2 (fits_from m.time at.sound.time)
        (fits_from m.value at.sound.value),
  )

  -- a greater limit
  raised : (limit : ℕ) (o : Option Contribution) → IsGood limit o → IsGood (suc limit) o
  raised limit None good = tt
  raised limit (Some v) good = (let below = good.0 in omega (arith, below), good.1, good.2)

  -- ---- the mark of the greatest number, and the others

  module _ (c : Knowledge) (tell : NumbersTell c) (l : ℕ)
      (below : (m : Mark) → knows c m ≡ true → m.number < suc l) where
    others : Knowledge
    others = retain_keys c (λ m. nat_lt m.number l)

    knows-others : (m : Mark) → knows others m ≡ (knows c m && nat_lt m.number l)
    unfolding others
    knows-others m = knows-retain c (λ x. nat_lt x.number l) m

    others_known : (m : Mark) → knows others m ≡ true → knows c m ≡ true
    others_known m e = and_first (knows c m) (nat_lt m.number l) (sym (knows-others m) ∙ e)

    others_below : (m : Mark) → knows others m ≡ true → m.number < l
    others_below m e = ltb-true m.number l (and_second (knows c m) (nat_lt m.number l) (sym (knows-others m) ∙ e))

    module _ (top : Mark) (known : knows c top ≡ true) (number : top.number ≡ l) where
      top_is_new : knows others top ≡ false
      top_is_new = knows-others top ∙ by (nat_lt top.number l) refl
        where
          by : (b : Bool) → nat_lt top.number l ≡ b → (knows c top && b) ≡ false
          by true e = let h = ltb-true top.number l e in absurd (omega (arith, h, number))
          by false e = and_false (knows c top)
            where
              and_false : (a : Bool) → (a && false) ≡ false
              and_false true = refl
              and_false false = refl

      below_top : (m : Mark) → knows c m ≡ true → eq_by_cmp mark_cmp m top ≡ false → nat_lt m.number l ≡ true
      below_top m here apart = by (nat_lt m.number l) refl
        where
          by : (b : Bool) → nat_lt m.number l ≡ b → b ≡ true
          by true e = refl
          by false e =
              let most = below m here in
              let least = ltb-false m.number l e in
              let same : m.number ≡ top.number = omega (arith, most, least, number) in
              absurd (true≢false (sym (subst (λ q. eq_by_cmp mark_cmp m q ≡ true) (tell m top here known same)
              (tie_itself mark_cmp_total mark_cmp-IsAntisymmetric m)) ∙ apart))

      all_but_one : c ≡ insert others top tt
      all_but_one = same_knowledge c (insert others top tt)
          (λ m. by m (eq_by_cmp mark_cmp m top) refl (knows c m) refl ∙ sym (knows-insert others top m))
        where
          by : (m : Mark) (tie : Bool) → eq_by_cmp mark_cmp m top ≡ tie → (here : Bool) → knows c m ≡ here
              → knows c m ≡ (eq_by_cmp mark_cmp m top || knows others m)
          by m true t here e = ap (knows c) (same_from_tie mark_cmp_total mark_cmp-IsAntisymmetric m top t) ∙ known
              ∙ ap (λ b. b || knows others m) (sym t)
          by m false t true e = e ∙ sym (ap (λ b. b || knows others m) t ∙ knows-others m
              ∙ ap (λ b. b && nat_lt m.number l) e ∙ below_top m e t)
          by m false t false e = e ∙ sym (ap (λ b. b || knows others m) t ∙ knows-others m
              ∙ ap (λ b. b && nat_lt m.number l) e)

  -- ---- all of them

  good_below : (limit : ℕ) (c : Knowledge) → NumbersTell c → ((m : Mark) → knows c m ≡ true → IsMarkAt m)
      → ((m : Mark) → knows c m ≡ true → m.number < limit) → IsGood limit (value s c)
  good_below zero c tell at below = subst (IsGood 0) (sym (no_value s c (λ m. none m (knows c m) refl))) tt
    where
      none : (m : Mark) (b : Bool) → knows c m ≡ b → b ≡ false
      none m true e = let h = below m e in absurd (omega (arith, h))
      none m false e = refl
  good_below (suc l) c tell at below =
      let lower = good_below l (others c tell l below)
      (λ a b p q e. tell a b (others_known c tell l below a p) (others_known c tell l below b q) e)
      (λ m e. at m (others_known c tell l below m e))
      (others_below c tell l below) in
      by (list_any (λ m. m.number == l) (keys c)) refl lower
    where
      by : (b : Bool) → list_any (λ m. m.number == l) (keys c) ≡ b → IsGood l (value s (others c tell l below))
          → IsGood (suc l) (value s c)
      by true e lower =
          let f = found_of mark_cmp_total mark_cmp-IsAntisymmetric (λ m. m.number == l) (keys c) e in
          let known = sym (is_in-keys_of c f.item) ∙ f.known in
          let number : f.item.number ≡ l = eqb-true f.item.number l f.passes in
          let rest = others c tell l below in
          let new = value-insert s rest f.item (top_is_new c tell l below f.item known number)
          (λ y h. let b = others_below c tell l below y h in omega (arith, b, number)) in
          let whole : value s c ≡ Some (contribution_with (value s rest) (slot_sample_of s f.item)) =
          ap (value s) (all_but_one c tell l below f.item known number) ∙ new in
          let good = with_mark l (value s rest) f.item (at f.item known) (omega (arith, number)) lower in
          subst (IsGood (suc l)) (sym whole) (subst (λ (k : ℕ). IsGood k
          (Some (contribution_with (value s rest) (slot_sample_of s f.item))))
          (let g : f.item.number + 1 ≡ suc l = omega (arith, number) in g) good)
      by false e lower = subst (λ (k : Knowledge). IsGood (suc l) (value s k))
          (sym (same_knowledge c (others c tell l below) (λ m. only m (knows c m) refl)))
          (raised l (value s (others c tell l below)) lower)
        where
          only : (m : Mark) (b : Bool) → knows c m ≡ b → knows c m ≡ knows (others c tell l below) m
          only m true h = h ∙ sym (knows-others c tell l below m ∙ ap (λ b. b && nat_lt m.number l) h
              ∙ beneath (nat_lt m.number l) refl)
            where
              beneath : (b : Bool) → nat_lt m.number l ≡ b → b ≡ true
              beneath true g = refl
              beneath false g =
                  let is_l : m.number ≡ l = (let most = below m h in let least = ltb-false m.number l g in
                  omega (arith, most, least)) in
                  absurd (true≢false (sym (any_from mark_cmp_total mark_cmp-IsAntisymmetric (λ x. x.number == l)
                  (keys c) m (is_in-keys_of c m ∙ h) (eq-eqb m.number l is_l)) ∙ e))
          only m false h = h ∙ sym (knows-others c tell l below m ∙ ap (λ b. b && nat_lt m.number l) h)

-- ---- the cells of what is known

module _ (s : Layout) (is : IsLayout s) (w : World) (k : Knowledge)
    (written : (m : Mark) → knows k m ≡ true → IsMarkOf s w m)
    (sound : (x : Sample) → IsWritten w x → IsSoundSample x) where
  in_cell : (n : CellName) (m : Mark) → knows (cell s k n) m ≡ true → (knows k m ≡ true) × (name_of s m ≡ n)
  in_cell n m e =
      let here = sym (knows-cell s k n m) ∙ e in
      let alive = knows k m && is_live_in s k (name_of s m) in (
        and_first (knows k m) (is_live_in s k (name_of s m))
            (and_first alive (eq_by_cmp cell_name_cmp (name_of s m) n) here),
        name_from_tie s m n (and_second alive (eq_by_cmp cell_name_cmp (name_of s m) n) here),
      )

  mark_at : (n : CellName) (m : Mark) → knows (cell s k n) m ≡ true → IsMarkAt s is n m
  mark_at n m e =
      let here = in_cell n m e in
      let of = written m here.0 in
      record { named = here.1; within = of.1; sound = sound m.sample of.0 }

  -- one origin wrote one sample under a number
  numbers_tell : (n : CellName) → NumbersTell s is n (cell s k n)
  numbers_tell n a b p q e =
      let one = in_cell n a p in
      let two = in_cell n b q in
      let names = one.1 ∙ sym two.1 in
      let origin : a.origin ≡ b.origin = ap (λ (c : CellName). c.origin) names in
      let archive : a.archive ≡ b.archive = ap (λ (c : CellName). c.archive) names in
      let found : Some a.sample ≡ Some b.sample = sym (written a one.0).0 ∙ (λ i. get w (origin i, e i))
      ∙ (written b two.0).0 in
      let sample : a.sample ≡ b.sample = ap (λ (o : Option Sample). unwrap_or o a.sample) found in
      λ i. record { sample = sample i; archive = archive i }

  cell_is : (n : CellName) (c : Contribution) → get (cells_of_knowledge s k) n ≡ Some c → IsCellOf s (n, c)
  cell_is n c e =
      let here : value s (cell s k n) ≡ Some c = sym (get-state s k n) ∙ e in
      let m = marked_by s (cell s k n) (ap is_some here) in
      let at = mark_at n m.0 m.1 in
      let good = subst (IsGood s is n (MAX_NUMBER + 1)) here
      (good_below s is n (MAX_NUMBER + 1) (cell s k n) (numbers_tell n) (mark_at n)
      (λ q h. let few = (mark_at n q h).sound.few_numbers in omega (arith, few))) in
      cell_from s n c
      (subst IsKeyText (ap (λ (q : CellName). q.key) at.named) at.sound.key)
      (subst (λ (i : ℕ). i < length s.archives) (ap (λ (q : CellName). q.archive) at.named) at.within)
      (subst IsOrigin (ap (λ (q : CellName). q.origin) at.named) at.sound.origin)
      (subst IsSlot (ap (λ (q : CellName). q.slot) at.named)
      (slot_is s is m.0.archive m.0.time (fits_from m.0.time at.sound.time)))
      good.1 good.2

pub states_are_valid : StatesAreValid
states_are_valid s w k is closed sound = All-from_recursion (IsCellOf s) (entries (cells_of_knowledge s k))
    (all_entries (IsCellOf s) (cells_of_knowledge s k) (cell_is s is w k closed.written sound))
