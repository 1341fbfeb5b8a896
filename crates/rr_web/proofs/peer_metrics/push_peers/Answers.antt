-- One family is added behind the other.
use Rattle.std.proofs.Common.{append_assoc}
use Rattle.rr_web.proofs.peer_metrics.push_peers.Goals as goal

pub returns : goal.returns
returns c =
    simp append_assoc at
    (rw (c.in_ok-push-3.ensures, c.in_ok-push-2.ensures, c.in_ok-push.ensures, c.in_ok-up.ensures, c.in_ok-bytes.ensures, c.in_ok-lag.ensures, c.in_ok-own.ensures) at c.push-4.ensures)
