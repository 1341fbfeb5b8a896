use Rattle.std.proofs.Common.{◌≡◌, map, take}
use Rattle.rr_web.specs.Family.{sample_view}
use Rattle.rr_web.specs.PeerMetrics.{peer_samples}
use Rattle.rr_web.proofs.peer_metrics.peer_samples.Given as goal

-- the samples of the peers so far are there
abbrev pub invariant-loop-peer : goal.invariant-loop-peer
invariant-loop-peer l = map sample_view l.samples.items ≡ peer_samples l.number (take l.peer-index l.peers)
