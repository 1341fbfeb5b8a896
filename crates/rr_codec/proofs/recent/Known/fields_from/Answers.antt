use Rattle.std.proofs.Common.{ℕ, ◌^◌, ◌≤◌, ◌≡◌, length, ap, subst, ◌∙◌, arith, rules}
use Rattle.rr_codec.specs.Recent.{KnownState, known_fields}
use Rattle.rr_codec.specs.Steps.{step_from}
use Rattle.rr_codec.proofs.RecentLemmas.{too_far}
use Rattle.rr_codec.proofs.recent.Known.fields_from.Goals as goal

pub returns-in-Err : goal.returns-in-Err
unfolding known_fields
returns-in-Err c =
    let steps = c.args.steps.now in
    let few = subst (λ (k : KnownState). length k.recent ≤ 16) c.self.view_is c.self.invariant in
    let place : c.step_from.result ≡ step_from c.args.self.now.place steps.place =
    c.step_from.ensures.value ∙ ap (λ (k : KnownState). step_from k.place steps.place) c.self.view_is in
    let far : 2 ^ 64 ≤ c.step_from.result = omega (arith, c.in-Err.ensures) in
    record {
      read = too_far c.args.self.now _ steps.fields few (subst (λ (n : ℕ). 2 ^ 64 ≤ n) place far);
      no_memory = search rules;
    }
