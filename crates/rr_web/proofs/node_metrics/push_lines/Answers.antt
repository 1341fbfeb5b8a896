-- One family is added behind the other.
use Rattle.std.proofs.Common.{append_assoc}
use Rattle.rr_web.proofs.node_metrics.push_lines.Goals as goal

pub returns : goal.returns
returns c =
    simp append_assoc at
    (rw (c.in_ok-push-2.ensures, c.in_ok-push.ensures, c.in_ok-push_counter-2.ensures, c.in_ok-push_counter.ensures, c.in_ok-refused.ensures, c.in_ok-bodies.ensures, c.deref.ensures.value) at c.push_counter-3.ensures)
