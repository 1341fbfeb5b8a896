-- What marks of one name come to, as samples of their slot.
use Rattle.std.proofs.Common.{◌≡◌, ℕ, suc, ◌+◌, ◌^◌, ℤ, pos, ◌+ℤ◌, true, List, [], ◌∷◌, map, length, refl, sym, ap, ◌∙◌, arith, Ordering, Less, Equal, Greater, true≢false, Some, is_some, nat_cmp, int_cmp}
use Rattle.std.specs.Prelude.{bit_or}
use Rattle.std.specs.Option.{option_map, unwrap_or}
use Rattle.std.specs.Ordering.{ordering_then}
use Rattle.std.specs.Cmp.{nat_cmp_total, tied_itself}
use Rattle.std.specs.Cmp.Lexicographic.{slice_cmp, nat_list_cmp_total}
use Rattle.std.specs.FinMap.{int_cmp-IsAntisymmetric}
use Rattle.rr_schema.specs.Schema.{Layout, place_of}
use Rattle.rr_join.specs.Maps.{greatest}
use Rattle.rr_join.specs.Sums.{int_sum}
use Rattle.rr_join.proofs.Greater.{greatest_some}
use Rattle.rr_join.proofs.Members.{is_in}
use Rattle.rr_contrib.specs.Samples as samples
use Rattle.rr_contrib.specs.Samples.{sample_cmp, mask_of, summary}
use Rattle.rr_cells.specs.CellNames.{CellName}
use Rattle.rr_cells.specs.Samples.{Mark, mark_cmp, name_of}
use Rattle.rr_cells.specs.Rows.{last_of}
use Rattle.rr_cells.proofs.Orders.{mark_cmp_total, mark_cmp-IsAntisymmetric}
use Rattle.rr_cells.specs.Puts.{slot_sample_of}
use Rattle.rr_cells.specs.State.{value_of}
use Rattle.rr_fetch.proofs.Gathering.{gather, greatest-map, greatest_agree}
use Rattle.rr_fetch.proofs.RowEntries.{map-map}

module _ (s : Layout) where
  pub sum-seen : (ms : List Mark) → int_sum (map (λ x. x.value) (map (slot_sample_of s) ms))
      ≡ gather ◌+ℤ◌ (pos 0) (λ m. m.value) ms
  sum-seen [] = refl
  sum-seen (m ∷ ms) = ap (λ y. m.value +ℤ y) (sum-seen ms)

  pub count-seen : (ms : List Mark) → length (map (slot_sample_of s) ms) ≡ gather ◌+◌ 0 (λ _. 1) ms
  count-seen [] = refl
  count-seen (m ∷ ms) = ap suc (count-seen ms) ∙ one_more (gather ◌+◌ 0 (λ _. 1) ms)
    where
      one_more : (k : ℕ) → suc k ≡ 1 + k
      one_more k = omega arith

  pub mask-seen : (ms : List Mark) → mask_of (map (λ x. x.place) (map (slot_sample_of s) ms))
      ≡ gather bit_or 0 (λ m. 2 ^ place_of s m.archive m.time) ms
  mask-seen [] = refl
  mask-seen (m ∷ ms) = ap (bit_or (2 ^ place_of s m.archive m.time)) (mask-seen ms)

  pub values-seen : (ms : List Mark) → map (λ x. x.value) (map (slot_sample_of s) ms) ≡ map (λ m. m.value) ms
  values-seen ms = map-map (λ x. x.value) (slot_sample_of s) ms

  -- marks that contribute something
  pub some_value : (S : ℤ → ℤ → Ordering) (ms : List Mark) (d : ℤ) → is_some (value_of s ms) ≡ true
      → Some (unwrap_or (greatest S (map (λ m. m.value) ms)) d) ≡ greatest S (map (λ m. m.value) ms)
  some_value S [] d e = absurd (true≢false (sym e))
  some_value S (m ∷ ms) d e = sym (greatest_some S m.value (map (λ x. x.value) ms) d)

  pub some_last : (ms : List Mark) (d : Mark) → is_some (value_of s ms) ≡ true
      → last_of ms ≡ Some (unwrap_or (last_of ms) d)
  some_last [] d e = absurd (true≢false (sym e))
  some_last (m ∷ ms) d e = greatest_some mark_cmp m ms d

  pub or_summary : (ms : List Mark) → unwrap_or (value_of s ms) (summary []) ≡ summary (map (slot_sample_of s) ms)
  or_summary [] = refl
  or_summary (m ∷ ms) = refl

  -- ---- the last of them

  tied_places : (a b : Mark) (rest : Ordering) → a.archive ≡ b.archive → a.time ≡ b.time
      → ordering_then (nat_cmp (place_of s a.archive a.time) (place_of s b.archive b.time)) rest ≡ rest
  tied_places a b rest archive time =
      ap (λ r. ordering_then r rest) ((λ i. nat_cmp (place_of s a.archive a.time)
      (place_of s (sym archive i) (sym time i))) ∙ tied_itself nat_cmp_total (place_of s a.archive a.time))

  -- marks of one name compare as their samples do
  same_order : (n : CellName) (a b : Mark) → name_of s a ≡ n → name_of s b ≡ n
      → sample_cmp (slot_sample_of s a) (slot_sample_of s b) ≡ mark_cmp a b
  same_order n a b of_a of_b =
      let same : name_of s a ≡ name_of s b = of_a ∙ sym of_b in
      let key : a.key ≡ b.key = ap (λ (q : CellName). q.key) same in
      let archive : a.archive ≡ b.archive = ap (λ (q : CellName). q.archive) same in
      let origin : a.origin ≡ b.origin = ap (λ (q : CellName). q.origin) same in
      let values = int_cmp a.value b.value in
      let by_number : (p q : Ordering) → p ≡ q → ordering_then (nat_cmp a.number b.number) p
      ≡ ordering_then (nat_cmp a.number b.number) q = λ p q e. ap (ordering_then (nat_cmp a.number b.number)) e in
      let keys : ordering_then (nat_cmp a.archive b.archive) (ordering_then (slice_cmp nat_cmp a.key b.key) values)
      ≡ values =
      (λ i. ordering_then (nat_cmp a.archive (sym archive i))
      (ordering_then (slice_cmp nat_cmp a.key (sym key i)) values))
      ∙ (λ i. ordering_then (tied_itself nat_cmp_total a.archive i)
      (ordering_then (tied_itself nat_list_cmp_total a.key i) values)) in
      let origins : (rest : Ordering) → ordering_then (nat_cmp a.origin b.origin) rest ≡ rest =
      λ rest. ap (λ r. ordering_then r rest) ((λ i. nat_cmp a.origin (sym origin i))
      ∙ tied_itself nat_cmp_total a.origin) in
      elim (int_cmp a.time b.time) as (λ t. int_cmp a.time b.time ≡ t
      → ordering_then t (ordering_then (nat_cmp a.number b.number)
      (ordering_then (nat_cmp (place_of s a.archive a.time) (place_of s b.archive b.time)) values))
      ≡ ordering_then t (ordering_then (nat_cmp a.origin b.origin)
      (ordering_then (nat_cmp a.number b.number) (ordering_then (nat_cmp a.archive b.archive)
      (ordering_then (slice_cmp nat_cmp a.key b.key) values))))) [
        | Less ↦ λ e. refl
        | Greater ↦ λ e. refl
        | Equal ↦ λ e.
            by_number _ _ (tied_places a b values archive (int_cmp-IsAntisymmetric a.time b.time e) ∙ sym keys)
            ∙ sym (origins _)
      ] refl

  -- the last sample of marks of one name is that of the last mark
  pub last-seen : (n : CellName) (ms : List Mark) → ((m : Mark) → is_in mark_cmp ms m ≡ true → name_of s m ≡ n)
      → samples.last_of (map (slot_sample_of s) ms) ≡ option_map (slot_sample_of s) (last_of ms)
  last-seen n ms named =
      greatest-map sample_cmp (slot_sample_of s) ms
      ∙ ap (option_map (slot_sample_of s)) (greatest_agree mark_cmp_total mark_cmp-IsAntisymmetric
      (λ a b. sample_cmp (slot_sample_of s a) (slot_sample_of s b)) mark_cmp ms
      (λ a b p q. same_order n a b (named a p) (named b q))).0

  -- and it is one of them
  pub last_in : (ms : List Mark) (m : Mark) → last_of ms ≡ Some m → is_in mark_cmp ms m ≡ true
  last_in ms m e = (greatest_agree mark_cmp_total mark_cmp-IsAntisymmetric mark_cmp mark_cmp ms (λ a b p q. refl)).1 m e
