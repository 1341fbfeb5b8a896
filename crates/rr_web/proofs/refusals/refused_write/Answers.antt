-- The parts of the target decide what is asked for.
use Rattle.std.proofs.Common.{◌≡◌, ap}
use Rattle.rr_web.specs.Target.{target_parts}
use Rattle.rr_web.proofs.refusals.refused_write.Goals as goal

pub returns-in-Write : goal.returns-in-Write
returns-in-Write c =
    let parts = rw c.deref.ensures.value at c.target_parts.ensures in
    let path : c.target_parts.result.0.now ≡ (target_parts c.args.request.now.target.items).0 = ap (λ p. p.0) parts in
    let query : c.target_parts.result.1.now ≡ (target_parts c.args.request.now.target.items).1 = ap (λ p. p.1) parts in
    let ask = rw (c.deref-2.ensures.value, path) at c.in-Write.ensures in
    rw (← ask) (rw query at c.refused_lines.ensures)
