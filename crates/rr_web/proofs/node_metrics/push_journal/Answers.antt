-- One family is added behind the other.
use Rattle.std.proofs.Common.{append_assoc}
use Rattle.rr_web.proofs.node_metrics.push_journal.Goals as goal

pub returns : goal.returns
returns c =
    simp append_assoc at
    (rw (c.in_ok-push_optional.ensures, c.in_ok-push_gauge.ensures, c.seconds-age.ensures) at c.push_counter.ensures)
