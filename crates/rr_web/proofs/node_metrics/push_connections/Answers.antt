-- One family is added behind the other.
use Rattle.std.proofs.Common.{append_assoc}
use Rattle.rr_web.proofs.node_metrics.push_connections.Goals as goal

pub returns : goal.returns
returns c =
    simp append_assoc at
    (rw (c.in_ok-push_gauge-3.ensures, c.in_ok-push_gauge-2.ensures, c.in_ok-push_gauge.ensures, c.in_ok-answers.ensures) at c.push.ensures)
