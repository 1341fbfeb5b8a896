-- What samples come to, with one more and in another order.
use Rattle.std.proofs.Common.{◌≡◌, ℕ, ◌^◌, ◌<◌, ℤ, pos, Bool, true, false, cond, not, List, [], ◌∷◌, length, map, refl, sym, ap, ◌∙◌, subst, Less, Equal, Greater, arith, Option, Some, nat_cmp, int_cmp, is_lt, add-one}
use Rattle.std.specs.Prelude.{int_lt}
use Rattle.std.specs.Int.{int_min, int_max}
use Rattle.std.specs.Int.Bits as bits
use Rattle.std.specs.Ordering.{ord_max, flip_args, ordering_then}
use Rattle.std.specs.Option.{unwrap_or, option_map}
use Rattle.std.specs.Cmp.{int_cmp_total}
use Rattle.std.specs.FinMap.{int_cmp-IsAntisymmetric}
use Rattle.std.proofs.Math.IntN.{+ℤ_comm, +ℤ_idr}
use Rattle.std.proofs.lemmas.Nat.{or_comm}
use Rattle.std.proofs.lemmas.Int.{ints}
use Rattle.std.proofs.lemmas.Bool.Decides.{nat_tests}
use Rattle.rr_join.specs.Maps.{greater, greatest}
use Rattle.rr_join.proofs.Greater.{greatest_some, max_comm}
use Rattle.rr_contrib.specs.declared.contribution.Contribution.{Contribution}
use Rattle.rr_contrib.specs.Contributions.{SlotSample, of_one, with_sample}
use Rattle.rr_join.specs.Sums.{int_sum}
use Rattle.rr_contrib.specs.Samples.{sample_cmp, last_of, mask_of, summary, contribution_of}

Some_inj : {V : Type 0} (x y : V) → Some x ≡ Some y → x ≡ y
Some_inj x y e = ap (λ v. unwrap_or v x) e

-- ---- tests of numbers

is_lt_int : (x y : ℤ) → is_lt (int_cmp x y) ≡ int_lt x y
is_lt_int x y = elim (int_lt x y) as (λ b. is_lt (cond b Less (cond (int_lt y x) Greater Equal)) ≡ b) [
  | true ↦ refl
  | false ↦ elim (int_lt y x) as (λ b. is_lt (cond b Greater Equal) ≡ false) [ true ↦ refl | false ↦ refl ]
]

not_both_less : (a b : ℤ) → int_lt a b ≡ true → int_lt b a ≡ false
not_both_less a b h = grind (arith, ints)

less_number : (x y : ℕ) → x < y → nat_cmp x y ≡ Less
less_number x y h = grind (arith, nat_tests)

greater_number : (m n : ℕ) → n < m → ord_max nat_cmp m n ≡ m
greater_number m n h = grind (arith, nat_tests)

-- ---- the greatest number and the last sample

number_below : (m n k : ℕ) → ord_max nat_cmp m n < k → (m < k) × (n < k)
number_below m n k h = (grind (arith, nat_tests), grind (arith, nat_tests))

abbrev number_of : List SlotSample → Option ℕ
number_of xs = greatest nat_cmp (map (λ x. x.number) xs)

-- the last sample has a number below any that is above all numbers
last_below : (x : SlotSample) (xs : List SlotSample) (n k : ℕ) (l : SlotSample) → number_of (x ∷ xs) ≡ Some n → n < k
    → last_of (x ∷ xs) ≡ Some l → l.number < k
last_below x [] n k l top h last =
    let number : x.number ≡ n = Some_inj x.number n top in
    subst (λ (y : SlotSample). y.number < k) (Some_inj x l last) (omega arith)
last_below x (y ∷ ys) n k l top h last =
    let v = unwrap_or (number_of (y ∷ ys)) 0 in
    let w = unwrap_or (last_of (y ∷ ys)) y in
    let numbers = greatest_some nat_cmp y.number (map (λ z. z.number) ys) 0 in
    let lasts = greatest_some sample_cmp y ys y in
    let most : ord_max nat_cmp x.number v ≡ n = Some_inj _ n
    (sym (ap (greater nat_cmp (Some x.number)) numbers) ∙ top) in
    let both = number_below x.number v k (subst (λ m. m < k) (sym most) h) in
    let is : ord_max sample_cmp x w ≡ l = Some_inj _ l (sym (ap (greater sample_cmp (Some x)) lasts) ∙ last) in
    subst (λ (z : SlotSample). z.number < k) is (either_below (is_lt (sample_cmp w x)) x w k both.0
    (last_below y ys v k w numbers both.1 lasts))
  where
    either_below : (b : Bool) (x w : SlotSample) (k : ℕ) → x.number < k → w.number < k → (cond b x w).number < k
    either_below true x w k p q = p
    either_below false x w k p q = q

by_time : (a b : ℤ) → is_lt (ordering_then (int_cmp a b) Less) ≡ not (int_lt b a)
by_time a b = elim (int_lt a b) as (λ c. int_lt a b ≡ c
    → is_lt (ordering_then (cond c Less (cond (int_lt b a) Greater Equal)) Less) ≡ not (int_lt b a)) [
      | true ↦ λ e. ap not (sym (not_both_less a b e))
      | false ↦ λ e. elim (int_lt b a) as (λ c. is_lt (ordering_then (cond c Greater Equal) Less) ≡ not c)
          [ true ↦ refl | false ↦ refl ]
    ] refl

-- of two samples the one with the greater number is the later, unless its time is earlier
later : (l x : SlotSample) → l.number < x.number → is_lt (sample_cmp l x) ≡ not (int_lt x.time l.time)
later l x below =
    ap (λ r. is_lt (ordering_then (int_cmp l.time x.time)
    (ordering_then r (ordering_then (nat_cmp l.place x.place) (int_cmp l.value x.value)))))
    (less_number l.number x.number below)
    ∙ by_time l.time x.time

-- ---- with one sample more

either : {A : Type 0} (f : SlotSample → A) (b : Bool) (y z : SlotSample) → f (cond (not b) y z) ≡ cond b (f z) (f y)
either f true y z = refl
either f false y z = refl

module _ (x y : SlotSample) (ys : List SlotSample) (above : (summary (y ∷ ys)).version < x.number) where
  abbrev before : List SlotSample
  before = y ∷ ys

  abbrev last_before : SlotSample
  last_before = unwrap_or (last_of before) y

  last_is : last_of before ≡ Some last_before
  last_is = greatest_some sample_cmp y ys y

  version_below : unwrap_or (number_of before) 0 < x.number
  unfolding summary
  version_below = above

  version_with : unwrap_or (number_of (x ∷ before)) 0 ≡ x.number
  version_with =
      ap (λ g. unwrap_or (greater nat_cmp (Some x.number) g) 0)
      (greatest_some nat_cmp y.number (map (λ z. z.number) ys) 0)
      ∙ greater_number x.number (unwrap_or (number_of before) 0) version_below

  min_with : unwrap_or (greatest (flip_args int_cmp) (map (λ z. z.value) (x ∷ before))) (pos 0)
      ≡ int_min (unwrap_or (greatest (flip_args int_cmp) (map (λ z. z.value) before)) (pos 0)) x.value
  min_with =
      let least = unwrap_or (greatest (flip_args int_cmp) (map (λ z. z.value) before)) (pos 0) in
      ap (λ g. unwrap_or (greater (flip_args int_cmp) (Some x.value) g) (pos 0))
      (greatest_some (flip_args int_cmp) y.value (map (λ z. z.value) ys) (pos 0))
      ∙ ap (λ b. cond b x.value least) (is_lt_int x.value least)

  max_with : unwrap_or (greatest int_cmp (map (λ z. z.value) (x ∷ before))) (pos 0)
      ≡ int_max (unwrap_or (greatest int_cmp (map (λ z. z.value) before)) (pos 0)) x.value
  max_with =
      let most = unwrap_or (greatest int_cmp (map (λ z. z.value) before)) (pos 0) in
      ap (λ g. unwrap_or (greater int_cmp (Some x.value) g) (pos 0))
      (greatest_some int_cmp y.value (map (λ z. z.value) ys) (pos 0))
      ∙ max_comm int_cmp_total int_cmp-IsAntisymmetric x.value most
      ∙ ap (λ b. cond b most x.value) (is_lt_int x.value most)

  -- the last is the new one, unless its time is earlier
  last_with : {A : Type 0} (f : SlotSample → A) (d : A)
      → unwrap_or (option_map f (last_of (x ∷ before))) d ≡ cond (int_lt x.time last_before.time) (f last_before) (f x)
  last_with f d =
      let below = last_below y ys (unwrap_or (number_of before) 0) x.number last_before
      (greatest_some nat_cmp y.number (map (λ z. z.number) ys) 0) version_below last_is in
      ap (λ g. unwrap_or (option_map f (greater sample_cmp (Some x) g)) d) last_is
      ∙ ap (λ b. f (cond b x last_before)) (later last_before x below)
      ∙ either f (int_lt x.time last_before.time) x last_before

  last_was : {A : Type 0} (f : SlotSample → A) (d : A) → unwrap_or (option_map f (last_of before)) d ≡ f last_before
  last_was f d = ap (λ g. unwrap_or (option_map f g) d) last_is

  summary_with : summary (x ∷ before) ≡ with_sample (summary before) x
  unfolding summary
  summary_with = λ i. record {
    version = version_with i;
    count = sym (add-one (length before)) i;
    sum = +ℤ_comm x.value (int_sum (map (λ z. z.value) before)) i;
    min = min_with i;
    max = max_with i;
    last_time = (last_with (λ z. z.time) (pos 0) ∙ sym
        (λ j. cond (int_lt x.time (last_was (λ z. z.time) (pos 0) j)) (last_was (λ z. z.time) (pos 0) j) x.time)) i;
    last_value = (last_with (λ z. z.value) (pos 0)
        ∙ sym (λ j. cond (int_lt x.time (last_was (λ z. z.time) (pos 0) j)) (last_was (λ z. z.value) (pos 0) j)
        x.value)) i;
    mask = or_comm (2 ^ x.place) (mask_of (map (λ z. z.place) before)) i;
  }

-- the contribution of samples with one more is theirs with it
pub contribution_of-more : (x : SlotSample) (xs : List SlotSample) (c : Contribution) → contribution_of xs ≡ Some c
    → c.version < x.number → contribution_of (x ∷ xs) ≡ Some (with_sample c x)
contribution_of-more x [] c e above = absurd cc
contribution_of-more x (y ∷ ys) c e above =
    let is : summary (y ∷ ys) ≡ c = Some_inj _ c e in
    ap (λ v. Some v) (summary_with x y ys (subst (λ (v : Contribution). v.version < x.number) (sym is) above)
    ∙ ap (λ v. with_sample v x) is)

pub contribution_of-one : (x : SlotSample) → contribution_of (x ∷ []) ≡ Some (of_one x)
unfolding summary
contribution_of-one x = λ i. Some (record {
  version = x.number;
  count = 1;
  sum = +ℤ_idr x.value i;
  min = x.value;
  max = x.value;
  last_time = x.time;
  last_value = x.value;
  mask = bits.or_zero_r (2 ^ x.place) i;
})
