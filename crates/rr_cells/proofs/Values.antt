-- What marks contribute, in any order, and with one mark more.
use Rattle.std.proofs.Common.{◌≡◌, ℕ, suc, ◌<◌, ◌^◌, ℤ, pos, ◌+ℤ◌, true, false, List, [], ◌∷◌, map, length, refl, sym, ap, ◌∙◌, subst, arith, Some, nat_cmp, int_cmp}
use Rattle.std.specs.Prelude.{bit_or}
use Rattle.std.specs.Option.{option_map, unwrap_or}
use Rattle.std.specs.Ordering.{flip_args, ord_max}
use Rattle.std.specs.Cmp.{nat_cmp_total, int_cmp_total, back_total}
use Rattle.std.specs.FinMap.{keys, insert, nat_cmp-IsAntisymmetric, int_cmp-IsAntisymmetric}
use Rattle.std.proofs.Math.IntN.{+ℤ_assoc, +ℤ_comm}
use Rattle.std.proofs.lemmas.Bool.{or_right}
use Rattle.std.proofs.lemmas.Bool.Decides.{nat_tests}
use Rattle.rr_schema.specs.Schema.{Layout}
use Rattle.rr_join.specs.Maps.{greatest, greater}
use Rattle.rr_join.proofs.Greater.{greater_swap, greatest_some, flip_args-IsAntisymmetric}
use Rattle.rr_join.proofs.Inserting.{inserted, keys-insert, total-inserted}
use Rattle.rr_join.proofs.Members.{is_in, head_in}
use Rattle.rr_contrib.specs.Contributions.{SlotSample, contribution_with}
use Rattle.rr_join.specs.Sums.{int_sum}
use Rattle.rr_contrib.specs.Samples.{sample_cmp, last_of, mask_of, summary, contribution_of}
use Rattle.rr_contrib.proofs.Orders.{sample_cmp_total, sample_cmp-IsAntisymmetric}
use Rattle.rr_contrib.proofs.Masks.{or_swap}
use Rattle.rr_contrib.proofs.Summing.{contribution_of-more, contribution_of-one}
use Rattle.rr_cells.specs.Samples.{Mark, mark_cmp}
use Rattle.rr_cells.specs.Knowledge.{Knowledge, knows}
use Rattle.rr_cells.proofs.Orders.{mark_cmp_total, mark_cmp-IsAntisymmetric}
use Rattle.rr_cells.proofs.Knowing.{is_in-keys_of}
use Rattle.rr_cells.specs.Puts.{slot_sample_of}
use Rattle.rr_cells.specs.State.{value_of}

add_swap : (x y z : ℤ) → x +ℤ (y +ℤ z) ≡ y +ℤ (x +ℤ z)
add_swap x y z = sym (+ℤ_assoc x y z) ∙ ap (λ g. g +ℤ z) (+ℤ_comm x y) ∙ +ℤ_assoc y x z

-- ---- in any order

module _ (s : Layout) (m : Mark) (ms : List Mark) (new : is_in mark_cmp ms m ≡ false) where
  last_either : last_of (map (slot_sample_of s) (inserted mark_cmp m ms)) ≡ last_of (map (slot_sample_of s) (m ∷ ms))
  last_either = total-inserted mark_cmp (greater sample_cmp) (λ y. Some (slot_sample_of s y))
      (λ l. last_of (map (slot_sample_of s) l)) (λ _ _. refl) (greater_swap sample_cmp_total sample_cmp-IsAntisymmetric)
      m ms new

  version_either : greatest nat_cmp (map (λ x. x.number) (map (slot_sample_of s) (inserted mark_cmp m ms)))
      ≡ greatest nat_cmp (map (λ x. x.number) (map (slot_sample_of s) (m ∷ ms)))
  version_either = total-inserted mark_cmp (greater nat_cmp) (λ y. Some y.number)
      (λ l. greatest nat_cmp (map (λ x. x.number) (map (slot_sample_of s) l))) (λ _ _. refl)
      (greater_swap nat_cmp_total nat_cmp-IsAntisymmetric) m ms new

  count_either : length (map (slot_sample_of s) (inserted mark_cmp m ms)) ≡ length (map (slot_sample_of s) (m ∷ ms))
  count_either = total-inserted mark_cmp (λ a b. suc b) (λ y. 0) (λ l. length (map (slot_sample_of s) l)) (λ _ _. refl)
      (λ a b c. refl) m ms new

  sum_either : int_sum (map (λ x. x.value) (map (slot_sample_of s) (inserted mark_cmp m ms)))
      ≡ int_sum (map (λ x. x.value) (map (slot_sample_of s) (m ∷ ms)))
  sum_either = total-inserted mark_cmp ◌+ℤ◌ (λ y. y.value)
      (λ l. int_sum (map (λ x. x.value) (map (slot_sample_of s) l))) (λ _ _. refl) add_swap m ms new

  least_either : greatest (flip_args int_cmp) (map (λ x. x.value) (map (slot_sample_of s) (inserted mark_cmp m ms)))
      ≡ greatest (flip_args int_cmp) (map (λ x. x.value) (map (slot_sample_of s) (m ∷ ms)))
  least_either = total-inserted mark_cmp (greater (flip_args int_cmp)) (λ y. Some y.value)
      (λ l. greatest (flip_args int_cmp) (map (λ x. x.value) (map (slot_sample_of s) l))) (λ _ _. refl)
      (greater_swap (back_total int_cmp_total) (flip_args-IsAntisymmetric int_cmp-IsAntisymmetric)) m ms new

  most_either : greatest int_cmp (map (λ x. x.value) (map (slot_sample_of s) (inserted mark_cmp m ms)))
      ≡ greatest int_cmp (map (λ x. x.value) (map (slot_sample_of s) (m ∷ ms)))
  most_either = total-inserted mark_cmp (greater int_cmp) (λ y. Some y.value)
      (λ l. greatest int_cmp (map (λ x. x.value) (map (slot_sample_of s) l))) (λ _ _. refl)
      (greater_swap int_cmp_total int_cmp-IsAntisymmetric) m ms new

  mask_either : mask_of (map (λ x. x.place) (map (slot_sample_of s) (inserted mark_cmp m ms)))
      ≡ mask_of (map (λ x. x.place) (map (slot_sample_of s) (m ∷ ms)))
  mask_either = total-inserted mark_cmp bit_or (λ y. 2 ^ (slot_sample_of s y).place)
      (λ l. mask_of (map (λ x. x.place) (map (slot_sample_of s) l))) (λ _ _. refl) or_swap m ms new

  summary_either : summary (map (slot_sample_of s) (inserted mark_cmp m ms)) ≡ summary (map (slot_sample_of s) (m ∷ ms))
  unfolding summary
  summary_either = λ i. record {
    version = unwrap_or (version_either i) 0;
    count = count_either i;
    sum = sum_either i;
    min = unwrap_or (least_either i) (pos 0);
    max = unwrap_or (most_either i) (pos 0);
    last_time = unwrap_or (option_map (λ (x : SlotSample). x.time) (last_either i)) (pos 0);
    last_value = unwrap_or (option_map (λ (x : SlotSample). x.value) (last_either i)) (pos 0);
    mask = mask_either i;
  }

of_some : (xs : List SlotSample) (n : ℕ) → length xs ≡ suc n → contribution_of xs ≡ Some (summary xs)
of_some [] n e = absurd (omega arith)
of_some (x ∷ xs) n e = refl

value_inserted : (s : Layout) (m : Mark) (ms : List Mark) → is_in mark_cmp ms m ≡ false
    → value_of s (inserted mark_cmp m ms) ≡ Some (summary (map (slot_sample_of s) (inserted mark_cmp m ms)))
value_inserted s m ms new = of_some (map (slot_sample_of s) (inserted mark_cmp m ms))
    (length (map (slot_sample_of s) ms)) (count_either s m ms new)

-- ---- a mark more

max_below : (a b n : ℕ) → a < n → b < n → ord_max nat_cmp a b < n
max_below a b n p q = grind (arith, nat_tests)

greatest_below : (s : Layout) (n : ℕ) (m : Mark) (ms : List Mark)
    → ((y : Mark) → is_in mark_cmp (m ∷ ms) y ≡ true → y.number < n)
    → unwrap_or (greatest nat_cmp (map (λ x. x.number) (map (slot_sample_of s) (m ∷ ms)))) 0 < n
greatest_below s n m [] below = below m (head_in mark_cmp_total mark_cmp-IsAntisymmetric m [])
greatest_below s n m (y ∷ ms) below =
    let rest = greatest_below s n y ms (λ z e. below z (or_right _ _ e)) in
    subst (λ g. unwrap_or (greater nat_cmp (Some m.number) g) 0 < n)
    (sym (greatest_some nat_cmp y.number (map (λ x. x.number) (map (slot_sample_of s) ms)) 0))
    (max_below m.number (unwrap_or (greatest nat_cmp (map (λ x. x.number) (map (slot_sample_of s) (y ∷ ms)))) 0) n
    (below m (head_in mark_cmp_total mark_cmp-IsAntisymmetric m (y ∷ ms))) rest)

value_with : (s : Layout) (m : Mark) (ms : List Mark) → ((y : Mark) → is_in mark_cmp ms y ≡ true → y.number < m.number)
    → value_of s (m ∷ ms) ≡ Some (contribution_with (value_of s ms) (slot_sample_of s m))
unfolding summary
value_with s m [] above = contribution_of-one (slot_sample_of s m)
value_with s m (x ∷ xs) above = contribution_of-more (slot_sample_of s m) (map (slot_sample_of s) (x ∷ xs))
    (summary (map (slot_sample_of s) (x ∷ xs))) refl (greatest_below s m.number x xs above)

pub value-insert : (s : Layout) (c : Knowledge) (m : Mark) → knows c m ≡ false
    → ((y : Mark) → knows c y ≡ true → y.number < m.number)
    → value_of s (keys (insert c m tt)) ≡ Some (contribution_with (value_of s (keys c)) (slot_sample_of s m))
value-insert s c m new above =
    ap (value_of s) (keys-insert mark_cmp_total mark_cmp-IsAntisymmetric c m tt)
    ∙ value_inserted s m (keys c) (is_in-keys_of c m ∙ new)
    ∙ ap (λ v. Some v) (summary_either s m (keys c) (is_in-keys_of c m ∙ new))
    ∙ value_with s m (keys c) (λ y e. above y (sym (is_in-keys_of c y) ∙ e))
