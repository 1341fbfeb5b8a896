use Rattle.std.proofs.Common.{◌≡◌, ◌≤◌, ap}
use Rattle.std.proofs.Math.Path.{PathP, to_path_p}
use Rattle.std.proofs.Math.Bridge.{le_prop}
use Rattle.std.specs.Bool.{Decides}
use Rattle.std.proofs.lemmas.Bool.Decides.{Decides-eqb, Decides-int_eq, Decides-and, Decides-like}
use Rattle.std.proofs.lemmas.Slice.Eq.{slice_eq-Decides}
use Rattle.rr_text.specs.declared.limits.TheConstants.{MAX_NUMBER}
use Rattle.rr_packed.specs.declared.lone_sample.LoneSample.{LoneSample}
use Rattle.rr_packed.specs.contracts.lone_sample.LoneSamplePartialEq.TheImpl.{eq-value as own}
use Rattle.rr_packed.proofs.lone_sample.are_same_samples.Goals as goal

is_same : (a b : LoneSample) → a.number ≡ b.number → a.time ≡ b.time → a.value ≡ b.value → a ≡ b
is_same a b n t v = λ i. record {
  number = n i;
  time = t i;
  value = v i;
  number_at_least = low i;
  number_at_most = high i;
}
  where
    low : PathP (λ i. 1 ≤ n i) a.number_at_least b.number_at_least
    low = to_path_p (λ i. 1 ≤ n i) (le_prop _ b.number_at_least)

    high : PathP (λ i. n i ≤ MAX_NUMBER) a.number_at_most b.number_at_most
    high = to_path_p (λ i. n i ≤ MAX_NUMBER) (le_prop _ b.number_at_most)

same : (a b : LoneSample) → Decides ((own).it a b) (a ≡ b)
same a b = Decides-like ((own).it a b)
    (λ p. is_same a b p.0 p.1.0 p.1.1)
    (λ e. (
      ap (λ (r : LoneSample). r.number) e,
      (ap (λ (r : LoneSample). r.time) e, ap (λ (r : LoneSample). r.value) e),
    ))
    (Decides-and _ _ (Decides-eqb a.number b.number)
    (Decides-and _ _ (Decides-int_eq a.time b.time) (Decides-int_eq a.value b.value)))

pub returns : goal.returns
returns c = λ t. (slice_eq-Decides same c.args.samples.now c.args.others.now c.eq.result c.eq.ensures).0 t
