use Rattle.std.proofs.Common.{◌<◌, ◌≤◌, ◌^◌, arith}
use Rattle.std.proofs.lemmas.Bool.{le-leb}
use Rattle.rr_contrib.proofs.Masks.{width, shift_tells, in_width}
use Rattle.rr_contrib.proofs.contribution.is_within.Goals as goal

pub returns-then-steps-ge-BITS : goal.returns-then-steps-ge-BITS
returns-then-steps-ge-BITS c =
    let wide : width ≤ c.args.steps = omega arith in
    let fits : c.args.mask < 2 ^ width = omega arith in
    ((λ _. in_width c.args.mask c.args.steps fits wide), (λ _. le-leb width c.args.steps wide))

pub returns-else-steps-ge-BITS : goal.returns-else-steps-ge-BITS
returns-else-steps-ge-BITS c = shift_tells c.args.mask c.args.steps
