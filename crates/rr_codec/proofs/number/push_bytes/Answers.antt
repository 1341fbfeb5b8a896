use Rattle.std.proofs.Common.{◌≡◌, ℕ, List, [], ◌∷◌, ◌++◌, ◌+◌, ◌-◌, ◌/◌, ◌%◌, ◌^◌, ◌<◌, ◌∙◌, sym, ap, subst, append_assoc, arith}
use Rattle.rr_codec.specs.Numbers.{number_text_within}
use Rattle.rr_codec.proofs.NumberLemmas.{text_last, text_more, fewer_below}
use Rattle.rr_codec.proofs.number.push_bytes.Goals as goal

pub returns-then-rest-lt128 : goal.returns-then-rest-lt128
returns-then-rest-lt128 c =
    c.in_ok-push.ensures.items
    ∙ ap (λ (l : List ℕ). c.loop.bytes.items ++ l)
    (sym (text_last (20 - c.loop.counter) c.loop.rest (omega arith) c.if-rest-lt128.true))
    ∙ c.loop.invariant.added

pub loop-preserved : goal.loop-preserved
loop-preserved c =
    let rest = c.loop.rest in
    let most = 20 - c.loop.counter in
    let k : most - 1 ≡ 20 - (c.loop.counter + 1) = omega arith in
    let left = number_text_within (20 - (c.loop.counter + 1)) (rest / 128) in
    let text = text_more most rest (omega arith) c.if-rest-lt128.false
    ∙ ap (λ (n : ℕ). (rest % 128 + 128) ∷ number_text_within n (rest / 128)) k in
    record {
      added = ap (λ (l : List ℕ). l ++ left) c.in_ok-push-2.ensures.items
          ∙ append_assoc c.loop.bytes.items ((rest % 128 + 128) ∷ []) left
          ∙ ap (λ (l : List ℕ). c.loop.bytes.items ++ l) (sym text)
          ∙ c.loop.invariant.added;
      below = subst (λ (n : ℕ). rest / 128 < 128 ^ n) k (fewer_below most rest (omega arith) c.loop.invariant.below);
    }

pub returns : goal.returns
returns c =
    let rest = c.loop.rest in
    let most = 20 - c.loop.counter in
    let k : most ≡ 1 = omega arith in
    let small : rest < 128 = subst (λ (n : ℕ). rest < 128 ^ n) k c.loop.invariant.below in
    c.in_ok-push-3.ensures.items
    ∙ ap (λ (l : List ℕ). c.loop.bytes.items ++ l) (sym (text_last most rest (omega arith) small))
    ∙ c.loop.invariant.added
