use Rattle.std.proofs.Common.{◌<◌, ◌≤◌, ◌^◌, arith}
use Rattle.std.proofs.lemmas.Bool.{ltb-true}
use Rattle.rr_contrib.proofs.Masks.{width, none_past}
use Rattle.rr_contrib.proofs.contribution.has_place.Goals as goal

pub returns-else-place-lt-BITS : goal.returns-else-place-lt-BITS
returns-else-place-lt-BITS c =
    let past : width ≤ c.args.place = omega arith in
    let fits : c.args.mask < 2 ^ width = omega arith in (
      (λ h. absurd (let low = ltb-true c.args.place width h in omega arith)),
      (λ has. absurd (none_past c.args.mask c.args.place fits past has)),
    )
