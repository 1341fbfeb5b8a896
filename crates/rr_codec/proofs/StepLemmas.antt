-- A step leads from the expected number to the number that it was made of.
use Rattle.std.proofs.Common.{◌≡◌, ℕ, ◌+◌, ◌-◌, ◌%◌, ◌^◌, ◌<◌, ap, ◌∙◌, arith}
use Rattle.std.proofs.lemmas.Bool.Decides.{nat_tests}
use Rattle.rr_codec.specs.Steps.{zigzag, unzigzag, step_to, step_from}

zigzag_again : (d : ℕ) → d < 2 ^ 128 → unzigzag (zigzag d) ≡ d
zigzag_again d fits = grind (arith, nat_tests)

round : (expected number : ℕ) → expected < 2 ^ 128 → number < 2 ^ 128
    → (expected + (number + (2 ^ 128 - expected)) % 2 ^ 128) % 2 ^ 128 ≡ number
round expected number p q = omega arith

pub step_from-step_to : (expected number : ℕ) → expected < 2 ^ 128 → number < 2 ^ 128
    → step_from expected (step_to expected number) ≡ number
unfolding step_to step_from
step_from-step_to expected number p q =
    ap (λ d. (expected + d) % 2 ^ 128) (zigzag_again ((number + (2 ^ 128 - expected)) % 2 ^ 128) (omega arith))
    ∙ round expected number p q

zigzag_wide : (d : ℕ) → d < 2 ^ 128 → zigzag d < 2 ^ 128
zigzag_wide d fits = grind (arith, nat_tests)

pub step_to-wide : (expected number : ℕ) → step_to expected number < 2 ^ 128
unfolding step_to
step_to-wide expected number = zigzag_wide ((number + (2 ^ 128 - expected)) % 2 ^ 128) (omega arith)
