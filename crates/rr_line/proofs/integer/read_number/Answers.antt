-- One digit more, and some digits in all.
use Rattle.std.proofs.Common.{◌≡◌, ℕ, ◌+◌, ◌*◌, ◌<◌, length, length-append, ap, subst, rules, arith}
use Rattle.rr_line.proofs.NumberLemmas.{HasPassed, passed_more, passed_some}
use Rattle.rr_line.proofs.integer.read_number.Goals as goal

pub loop-digit-preserved : goal.loop-digit-preserved
loop-digit-preserved c =
    let before = c.loop-digit in
    let same : before.number * 10 + c.in-Some.digit ≡ c.in_ok-number.number = search rules in
    let more = passed_more c.args.text.now before.number c.in-Some.digit before.left.now c.in-Some.rest.now
    before.invariant c.in-Some.ensures (search rules) in
    subst (λ (n : ℕ). HasPassed c.args.text.now n c.in-Some.rest.now) same more

pub returns : goal.returns
returns c =
    let last = c.loop-digit in
    let some : length last.left.now < length c.args.text.now =
    omega (arith, ap length last.invariant.whole, length-append last.invariant.digits last.left.now) in
    passed_some c.args.text.now last.number last.left.now last.invariant some
