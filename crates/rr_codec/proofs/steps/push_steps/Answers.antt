use Rattle.std.proofs.Common.{ℕ, List, ◌++◌, ◌∙◌, ap}
use Rattle.std.proofs.lemmas.Result.{on_ok_weaker}
use Rattle.rr_codec.specs.Numbers.{number_text}
use Rattle.rr_codec.specs.Steps.{flags_of, step_text, steps_text}
use Rattle.rr_codec.proofs.WriteLemmas.{twelve_added}
use Rattle.rr_codec.proofs.steps.push_steps.Goals as goal

pub returns : goal.returns
unfolding steps_text
returns c =
    let s = c.args.steps.now in
    let flags = c.in_ok-push_number.ensures
    ∙ ap (λ (n : ℕ). c.args.bytes.now.items ++ number_text n) (c.from.ensures ∙ c.flags_of.ensures) in
    let s1 = c.in_ok-push_step.ensures ∙ ap (λ (l : List ℕ). l ++ step_text s.fields.last_value) flags in
    let s2 = c.in_ok-push_step-2.ensures ∙ ap (λ (l : List ℕ). l ++ step_text s.fields.version) s1 in
    let s3 = c.in_ok-push_step-3.ensures ∙ ap (λ (l : List ℕ). l ++ step_text s.fields.last_time) s2 in
    let s4 = c.in_ok-push_step-4.ensures ∙ ap (λ (l : List ℕ). l ++ step_text s.fields.min) s3 in
    let s5 = c.in_ok-push_step-5.ensures ∙ ap (λ (l : List ℕ). l ++ step_text s.fields.max) s4 in
    let s6 = c.in_ok-push_step-6.ensures ∙ ap (λ (l : List ℕ). l ++ step_text s.fields.sum) s5 in
    let s7 = c.in_ok-push_step-7.ensures ∙ ap (λ (l : List ℕ). l ++ step_text s.fields.count) s6 in
    let s8 = c.in_ok-push_step-8.ensures ∙ ap (λ (l : List ℕ). l ++ step_text s.fields.mask) s7 in
    let s9 = c.in_ok-push_step-9.ensures ∙ ap (λ (l : List ℕ). l ++ step_text s.fields.slot) s8 in
    let s10 = c.in_ok-push_step-10.ensures ∙ ap (λ (l : List ℕ). l ++ step_text s.place) s9 in
    on_ok_weaker c.push_step-11.result (λ added. added ∙ ap (λ (l : List ℕ). l ++ step_text s.fields.origin) s10
    ∙ twelve_added c.args.bytes.now.items (number_text (flags_of s)) (step_text s.fields.last_value)
    (step_text s.fields.version) (step_text s.fields.last_time) (step_text s.fields.min) (step_text s.fields.max)
    (step_text s.fields.sum) (step_text s.fields.count) (step_text s.fields.mask) (step_text s.fields.slot)
    (step_text s.place) (step_text s.fields.origin)) c.push_step-11.ensures
