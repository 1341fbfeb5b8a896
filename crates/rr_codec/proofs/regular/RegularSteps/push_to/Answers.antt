use Rattle.std.proofs.Common.{ℕ, List, ◌++◌, ◌∙◌, ap}
use Rattle.std.proofs.lemmas.Result.{on_ok_weaker}
use Rattle.rr_codec.specs.Numbers.{number_text}
use Rattle.rr_codec.specs.Regular.{all_steps}
use Rattle.rr_codec.specs.Steps.{flags_of, step_text, steps_text}
use Rattle.rr_codec.proofs.WriteLemmas.{seven_added}
use Rattle.rr_codec.proofs.regular.RegularSteps.push_to.Goals as goal

pub returns : goal.returns
unfolding steps_text
returns c =
    let s = all_steps c.args.self.now in
    let flags = c.in_ok-push_number.ensures
    ∙ ap (λ (n : ℕ). c.args.bytes.now.items ++ number_text n) (c.from.ensures ∙ c.flags.ensures) in
    let s1 = c.in_ok-push_step.ensures ∙ ap (λ (l : List ℕ). l ++ step_text s.fields.last_value) flags in
    let s2 = c.in_ok-push_step-2.ensures ∙ ap (λ (l : List ℕ). l ++ step_text s.fields.version) s1 in
    let s3 = c.in_ok-push_step-3.ensures ∙ ap (λ (l : List ℕ). l ++ step_text s.fields.last_time) s2 in
    let s4 = c.in_ok-push_step-4.ensures ∙ ap (λ (l : List ℕ). l ++ step_text s.fields.min) s3 in
    let s5 = c.in_ok-push_step-5.ensures ∙ ap (λ (l : List ℕ). l ++ step_text s.fields.max) s4 in
    on_ok_weaker c.push_step-6.result (λ added. added ∙ ap (λ (l : List ℕ). l ++ step_text s.fields.sum) s5
    ∙ seven_added c.args.bytes.now.items (number_text (flags_of s)) (step_text s.fields.last_value)
    (step_text s.fields.version) (step_text s.fields.last_time) (step_text s.fields.min) (step_text s.fields.max)
    (step_text s.fields.sum)) c.push_step-6.ensures
