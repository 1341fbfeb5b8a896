use Rattle.std.proofs.Common.{◌≡◌, ◌-◌, arith}
use Rattle.rr_batch.proofs.writer.Writer.take_request.Goals as goal

-- no lines were refused before those of the body
pub returns-in_ok-count-in-Ok-clause-counted : goal.returns-in_ok-count-in-Ok-clause-counted
returns-in_ok-count-in-Ok-clause-counted g c =
    let refused = c.in-Ok.taken.report.refused in
    let all : refused - 0 ≡ refused = omega arith in
    rw (c.deref-in-Ok.ensures.value, all) at c.in_ok-count-in-Ok.ensures.refused
