use Rattle.std.proofs.Common.{rules, ◌≡◌, ◌^◌, ◌*◌, ◌%◌, ◌∷◌, [], Some, sym, subst, to_z, of_z, w64}
use Rattle.std.proofs.lemmas.Nat.{one_shl}
use mir.Syntax.{w128}
use Rattle.rr_contrib.specs.Contributions.{slot_sample}
use Rattle.rr_contrib.specs.Samples.{contribution_of}
use Rattle.rr_contrib.specs.Validity.{StartsValid}
use Rattle.rr_contrib.proofs.Summing.{contribution_of-one}
use Rattle.rr_contrib.proofs.Masks.{width}
use Rattle.rr_contrib.proofs.KeepsValidLemmas.{starts_valid}
use Rattle.rr_contrib.proofs.contribution.Contribution.first.Goals as goal

pub returns-clause-value : goal.returns-clause-value
returns-clause-value c =
    let sum : to_z w128 (of_z w128 c.from.result) ≡ c.args.value = search rules in
    let value : to_z w64 (of_z w64 c.args.value) ≡ c.args.value = search rules in
    let time : to_z w64 (of_z w64 c.args.time) ≡ c.args.time = search rules in
    let mask : 1 * 2 ^ c.args.place % 2 ^ width ≡ 2 ^ c.args.place = one_shl c.args.place width c.requires.fits in
    λ i. record {
      version = c.args.number;
      count = 1;
      sum = sum i;
      min = value i;
      max = value i;
      last_time = time i;
      last_value = value i;
      mask = mask i;
    }

pub returns-clause-samples : goal.returns-clause-samples
returns-clause-samples c =
    let x = slot_sample c.args.number c.args.place c.args.time c.args.value in
    subst (λ r. contribution_of (x ∷ []) ≡ Some r) (sym (returns-clause-value c)) (contribution_of-one x)

pub returns-clause-valid : goal.returns-clause-valid
returns-clause-valid c =
    let x = slot_sample c.args.number c.args.place c.args.time c.args.value in
    subst (λ r. StartsValid x r) (sym (returns-clause-value c))
    (starts_valid x c.requires.some_number c.requires.known_number)
