-- A quotient is known by its bounds.
use Rattle.std.proofs.Common.{rules, ◌≡◌, ◌<◌, ◌≤◌, ◌+◌, ◌-◌, ◌*◌, ◌/◌, ℕ, arith}
use Rattle.std.proofs.Math.Nat.{div-eq_of_lt-le}
use Rattle.rr_replica.proofs.slots.slots_on.Goals as goal

none_on : (slot time length start : ℕ) → start ≡ slot * length → start ≤ time → time - start < length
    → time / length ≡ slot + 0
none_on slot time length start is le lt = div-eq_of_lt-le length (omega (arith, is, le)) (omega (arith, is, le, lt))

one_on : (slot time length start : ℕ) → start ≡ slot * length → start ≤ time → length ≤ time - start
    → time - start - length < length → time / length ≡ slot + 1
one_on slot time length start is le past lt =
    div-eq_of_lt-le length (omega (arith, is, le, past)) (omega (arith, is, le, past, lt))

pub returns-then-left-length : goal.returns-then-left-length
returns-then-left-length c =
    let start : c.in-Some.start ≡ c.args.slot * c.args.length = search rules in
    none_on c.args.slot c.args.time c.args.length c.in-Some.start start c.if-time-start.false c.if-left-length.true
