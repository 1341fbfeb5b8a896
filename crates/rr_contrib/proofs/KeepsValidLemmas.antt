-- A sample of the slot keeps a contribution valid.
use Rattle.std.proofs.Common.{◌≡◌, ℕ, zero, suc, ◌+◌, ◌*◌, ◌^◌, ◌<◌, ◌≤◌, ℤ, pos, negsuc, ◌+ℤ◌, ◌*ℤ◌, ◌≤ℤ◌, Bool, true, false, cond, length, add-one, refl, sym, ap, ◌∙◌, subst, arith}
use Rattle.std.specs.Prelude.{int_lt, bit_or, unsigned_abs}
use Rattle.std.specs.Int.{int_min, int_max, bit_at, int_div_euclid, int_rem_euclid}
use Rattle.std.proofs.Math.IntN.{zero-*ℤ, suc_ℤ-*ℤ, +ℤ_idl}
use Rattle.std.proofs.Math.Pow.{pow-lt}
use Rattle.std.proofs.lemmas.Nat.{or_lt}
use Rattle.std.proofs.lemmas.Nat.Bits.{bit_at-pow_same}
use Rattle.std.proofs.lemmas.Int.{ints}
use Rattle.rr_schema.specs.declared.archive.ArchiveSpec.{ArchiveSpec}
use Rattle.rr_text.specs.declared.limits.TheConstants.{MAX_NUMBER}
use Rattle.rr_schema.specs.Schema.{Layout, IsLayout, archive_at, slot_of, place_of}
use Rattle.rr_schema.proofs.PlaceLemmas.{rem_is_place}
use Rattle.rr_contrib.specs.declared.contribution.Contribution.{Contribution}
use Rattle.rr_contrib.specs.Contributions.{SlotSample, of_one, with_sample}
use Rattle.rr_contrib.specs.Validity.{IsValid, StartsValid, KeepsValid}
use Rattle.rr_contrib.proofs.Masks.{one_bit, ones-with_place, bit_kept, bit_set}

-- ---- a place is below the steps of its slot

rest_below : (z : ℤ) (n : ℕ) → 0 < n → unsigned_abs (int_rem_euclid z (pos n)) < n
rest_below (pos a) n some = omega arith
rest_below (negsuc a) n some = omega arith

pub place_below : (s : Layout) (archive : ℕ) (time : ℤ) → 0 < (archive_at s archive).steps
    → place_of s archive time < (archive_at s archive).steps
place_below s archive time some =
    let n = (archive_at s archive).steps in
    subst (λ p. p < n) (rem_is_place s archive time some)
    (rest_below (int_div_euclid time (pos (s.step * 1_000_000_000))) n some)

pub some_steps : (s : Layout) → IsLayout s → (archive : ℕ) → archive < length s.archives
    → 0 < (archive_at s archive).steps
some_steps s is archive within =
    let past : ArchiveSpec = record { steps = 1; rows = 1; num = 0; den = 1 } in
    (is.each archive past within).some_step

-- ---- extremes and sums

least_with : (least v last : ℤ) (b : Bool) → least ≤ℤ last → int_min least v ≤ℤ cond b last v
least_with least v last true h = grind (arith, ints)
least_with least v last false h = grind (arith, ints)

most_with : (most v last : ℤ) (b : Bool) → last ≤ℤ most → cond b last v ≤ℤ int_max most v
most_with most v last true h = grind (arith, ints)
most_with most v last false h = grind (arith, ints)

sum_mono : (x y a b : ℤ) → x ≤ℤ y → a ≤ℤ b → (x +ℤ a) ≤ℤ (y +ℤ b)
sum_mono x y a b p q = omega (arith, ints)

le_chain : (x y z : ℤ) → x ≤ℤ y → y ≤ℤ z → x ≤ℤ z
le_chain x y z p q = omega (arith, ints)

times_mono : (n : ℕ) (a b : ℤ) → a ≤ℤ b → (pos n *ℤ a) ≤ℤ (pos n *ℤ b)
times_mono zero a b h = rw (zero-*ℤ a, zero-*ℤ b) (le_zero (pos 0))
  where
    le_zero : (x : ℤ) → x ≤ℤ x
    le_zero x = omega (arith, ints)
times_mono (suc n) a b h = rw (suc_ℤ-*ℤ (pos n) a, suc_ℤ-*ℤ (pos n) b)
    (sum_mono (pos n *ℤ a) (pos n *ℤ b) a b (times_mono n a b h) h)

-- one time more
times-more : (n : ℕ) (a : ℤ) → pos (n + 1) *ℤ a ≡ (pos n *ℤ a) +ℤ a
times-more n a = ap (λ k. pos k *ℤ a) (add-one n) ∙ suc_ℤ-*ℤ (pos n) a

one-*ℤ : (a : ℤ) → pos 1 *ℤ a ≡ a
one-*ℤ a = times-more 0 a ∙ ap (λ z. z +ℤ a) (zero-*ℤ a) ∙ +ℤ_idl a

low_with : (n : ℕ) (least v sum : ℤ) → (pos n *ℤ least) ≤ℤ sum → (pos (n + 1) *ℤ int_min least v) ≤ℤ (sum +ℤ v)
low_with n least v sum h =
    let m = int_min least v in
    subst (λ z. z ≤ℤ (sum +ℤ v)) (sym (times-more n m))
    (sum_mono (pos n *ℤ m) sum m v (le_chain _ _ _ (times_mono n m least (min_first least v)) h)
    (min_second least v))
  where
    min_first : (x y : ℤ) → int_min x y ≤ℤ x
    min_first x y = grind (arith, ints)

    min_second : (x y : ℤ) → int_min x y ≤ℤ y
    min_second x y = grind (arith, ints)

high_with : (n : ℕ) (most v sum : ℤ) → sum ≤ℤ (pos n *ℤ most) → (sum +ℤ v) ≤ℤ (pos (n + 1) *ℤ int_max most v)
high_with n most v sum h =
    let m = int_max most v in
    subst (λ z. (sum +ℤ v) ≤ℤ z) (sym (times-more n m))
    (sum_mono sum (pos n *ℤ m) v m (le_chain _ _ _ h (times_mono n most m (max_first most v))) (max_second most v))
  where
    max_first : (x y : ℤ) → x ≤ℤ int_max x y
    max_first x y = grind (arith, ints)

    max_second : (x y : ℤ) → y ≤ℤ int_max x y
    max_second x y = grind (arith, ints)

-- ---- the last time and its place

slot_with : (s : Layout) (archive : ℕ) (slot last time : ℤ) (b : Bool) → slot_of s archive last ≡ slot
    → slot_of s archive time ≡ slot → slot_of s archive (cond b last time) ≡ slot
slot_with s archive slot last time true p q = p
slot_with s archive slot last time false p q = q

place_with : (s : Layout) (archive mask place : ℕ) (last time : ℤ) (b : Bool)
    → bit_at mask (place_of s archive last) ≡ 1 → place ≡ place_of s archive time
    → bit_at (bit_or mask (2 ^ place)) (place_of s archive (cond b last time)) ≡ 1
place_with s archive mask place last time true has is = bit_kept mask place (place_of s archive last) has
place_with s archive mask place last time false has is =
    subst (λ p. bit_at (bit_or mask (2 ^ place)) p ≡ 1) is (bit_set mask place)

-- ---- a sample more, and another

le_same : (z : ℤ) → z ≤ℤ z
le_same z = omega (arith, ints)

once_low : (z : ℤ) → (pos 1 *ℤ z) ≤ℤ z
once_low z = subst (λ y. y ≤ℤ z) (sym (one-*ℤ z)) (le_same z)

once_high : (z : ℤ) → z ≤ℤ (pos 1 *ℤ z)
once_high z = subst (λ y. z ≤ℤ y) (sym (one-*ℤ z)) (le_same z)

-- ---- together

-- the sample falls into the slot, at its place there
pub record Falls (s : Layout) (archive : ℕ) (slot : ℤ) (x : SlotSample) : Type 0 where
  pub some_number : 1 ≤ x.number
  pub known_number : x.number ≤ MAX_NUMBER
  pub in_slot : slot_of s archive x.time ≡ slot
  pub place : x.place ≡ place_of s archive x.time
  pub within : x.place < (archive_at s archive).steps

pub with_sample_valid : (s : Layout) (archive : ℕ) (slot : ℤ) (c : Contribution) (x : SlotSample)
    → IsValid s archive slot c → Falls s archive slot x → c.version < x.number
    → IsValid s archive slot (with_sample c x)
with_sample_valid s archive slot c x v f newer =
    let counted = v.counted in
    let few = v.few in
    let more = ones-with_place c.mask x.place in
    record {
      bounded = record {
        some = omega arith;
        counted = omega arith;
        numbered = f.known_number;
        least = least_with c.min x.value c.last_value (int_lt x.time c.last_time) v.least;
        most = most_with c.max x.value c.last_value (int_lt x.time c.last_time) v.most;
        low = low_with c.count c.min x.value c.sum v.low;
        high = high_with c.count c.max x.value c.sum v.high;
      };
      in_slot = slot_with s archive slot c.last_time x.time (int_lt x.time c.last_time) v.in_slot f.in_slot;
      in_steps = or_lt (archive_at s archive).steps c.mask (2 ^ x.place) v.in_steps (pow-lt f.within);
      has_last = place_with s archive c.mask x.place c.last_time x.time (int_lt x.time c.last_time) v.has_last f.place;
      few = omega arith;
    }

pub of_one_valid : (s : Layout) (archive : ℕ) (slot : ℤ) (x : SlotSample) → Falls s archive slot x
    → IsValid s archive slot (of_one x)
of_one_valid s archive slot x f =
    let one = one_bit x.place in
    let some_number = f.some_number in
    record {
      bounded = record {
        some = omega arith;
        counted = some_number;
        numbered = f.known_number;
        least = le_same x.value;
        most = le_same x.value;
        low = once_low x.value;
        high = once_high x.value;
      };
      in_slot = f.in_slot;
      in_steps = pow-lt f.within;
      has_last = subst (λ p. bit_at (2 ^ x.place) p ≡ 1) f.place (bit_at-pow_same x.place);
      few = omega arith;
    }

-- a sample at its place falls into the slot of its time
falls : (x : SlotSample) → 1 ≤ x.number → x.number ≤ MAX_NUMBER → (s : Layout) (archive : ℕ) → IsLayout s
    → archive < length s.archives → x.place ≡ place_of s archive x.time → Falls s archive (slot_of s archive x.time) x
falls x some known s archive is within at = record {
  some_number = some;
  known_number = known;
  in_slot = refl;
  place = at;
  within = subst (λ p. p < (archive_at s archive).steps) (sym at)
      (place_below s archive x.time (some_steps s is archive within));
}

pub keeps_valid : (c : Contribution) (x : SlotSample) → 1 ≤ x.number → x.number ≤ MAX_NUMBER → c.version < x.number
    → KeepsValid x c (with_sample c x)
keeps_valid c x some known newer = λ s archive is within at v. with_sample_valid s archive (slot_of s archive x.time) c
    x v (falls x some known s archive is within at) newer

pub starts_valid : (x : SlotSample) → 1 ≤ x.number → x.number ≤ MAX_NUMBER → StartsValid x (of_one x)
starts_valid x some known = λ s archive is within at. of_one_valid s archive (slot_of s archive x.time) x
    (falls x some known s archive is within at)
