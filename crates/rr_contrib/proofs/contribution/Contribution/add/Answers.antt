use Rattle.std.proofs.Common.{rules, arith, ℕ, ℤ, pos, negsuc, ◌+◌, ◌≡◌, ◌≤◌, ◌≤ℤ◌, ◌^◌, ◌*◌, ◌%◌, ◌+ℤ◌, ◌*ℤ◌, FitsSigned, ◌∷◌, Some, sym, ap, subst, to_z, of_z, w64, cond}
use Rattle.std.specs.Prelude.{bit_or, int_lt, unsigned_abs}
use Rattle.std.specs.Int.{int_min, int_max}
use Rattle.std.specs.Int.Signed.{nat_abs-le}
use Rattle.std.proofs.Math.Nat.{mul-le-mul}
use Rattle.std.proofs.lemmas.Int.{ints, unsigned_abs-mul}
use Rattle.std.proofs.lemmas.Nat.{one_shl}
use mir.Syntax.{w128}
use Rattle.rr_contrib.specs.Contributions.{slot_sample}
use Rattle.rr_contrib.specs.Samples.{contribution_of}
use Rattle.rr_contrib.specs.Validity.{KeepsValid}
use Rattle.rr_contrib.proofs.Summing.{contribution_of-more}
use Rattle.rr_contrib.proofs.Masks.{width}
use Rattle.rr_contrib.proofs.KeepsValidLemmas.{keeps_valid}
use Rattle.rr_contrib.proofs.contribution.Contribution.add.Goals as goal

-- as many values as a contribution has come to no more than this
times_near : (n : ℕ) (v : ℤ) → n ≤ 2 ^ 40 → FitsSigned w64 v → unsigned_abs (pos n *ℤ v) ≤ 2 ^ 126
times_near n v few fits =
    let near : unsigned_abs v ≤ 2 ^ 63 = nat_abs-le v fits.sfits in
    omega (arith, unsigned_abs-mul (pos n) v, mul-le-mul few near)

low_by : (z s : ℤ) → unsigned_abs z ≤ 2 ^ 126 → z ≤ℤ s → negsuc (2 ^ 126) ≤ℤ s
low_by z s near le = omega (arith, ints)

high_by : (z s : ℤ) → unsigned_abs z ≤ 2 ^ 126 → s ≤ℤ z → s ≤ℤ pos (2 ^ 126)
high_by z s near le = omega (arith, ints)

pub total_with-sum-requires-clause-low : goal.total_with-sum-requires-clause-low
total_with-sum-requires-clause-low c =
    let sum : to_z w128 (of_z w128 c.args.self.now.sum) ≡ c.args.self.now.sum = search rules in
    let few : c.args.self.now.count ≤ 2 ^ 40 = omega
    (arith, c.requires.counted, c.requires.newer, c.requires.sample.known_number) in
    rw sum (low_by _ _ (times_near c.args.self.now.count c.args.self.now.min few (search rules)) c.requires.low)

pub total_with-sum-requires-clause-high : goal.total_with-sum-requires-clause-high
total_with-sum-requires-clause-high c =
    let sum : to_z w128 (of_z w128 c.args.self.now.sum) ≡ c.args.self.now.sum = search rules in
    let few : c.args.self.now.count ≤ 2 ^ 40 = omega
    (arith, c.requires.counted, c.requires.newer, c.requires.sample.known_number) in
    rw sum (high_by _ _ (times_near c.args.self.now.count c.args.self.now.max few (search rules)) c.requires.high)

pub returns-clause-value : goal.returns-clause-value
returns-clause-value c =
    let sum : to_z w128 (of_z w128 c.total_with-sum.result) ≡ (c.args.self.now.sum +ℤ c.args.value) = search rules in
    let least : to_z w64 (of_z w64 c.min.result) ≡ int_min c.args.self.now.min c.args.value = search rules in
    let most : to_z w64 (of_z w64 c.max.result) ≡ int_max c.args.self.now.max c.args.value = search rules in
    let time : to_z w64 (of_z w64 c.max-2.result) ≡ int_max c.args.self.now.last_time c.args.time = search rules in
    let last : to_z w64 (of_z w64 c.last_value_with-last_value.result)
    ≡ cond (int_lt c.args.time c.args.self.now.last_time) c.args.self.now.last_value c.args.value = search rules in
    let mask : bit_or c.args.self.now.mask (1 * 2 ^ c.args.place % 2 ^ width)
    ≡ bit_or c.args.self.now.mask (2 ^ c.args.place) =
    ap (bit_or c.args.self.now.mask) (one_shl c.args.place width c.requires.sample.fits) in
    λ i. record {
      version = c.args.number;
      count = c.args.self.now.count + 1;
      sum = sum i;
      min = least i;
      max = most i;
      last_time = time i;
      last_value = last i;
      mask = mask i;
    }

pub returns-clause-samples : goal.returns-clause-samples
returns-clause-samples c =
    let x = slot_sample c.args.number c.args.place c.args.time c.args.value in
    λ xs is. subst (λ r. contribution_of (x ∷ xs) ≡ Some r) (sym (returns-clause-value c))
    (contribution_of-more x xs c.args.self.now is c.requires.newer)

pub returns-clause-valid : goal.returns-clause-valid
returns-clause-valid c =
    let x = slot_sample c.args.number c.args.place c.args.time c.args.value in
    subst (λ r. KeepsValid x c.args.self.now r) (sym (returns-clause-value c))
    (keeps_valid c.args.self.now x c.requires.sample.some_number c.requires.sample.known_number c.requires.newer)
