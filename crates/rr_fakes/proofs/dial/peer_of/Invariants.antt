use Rattle.std.proofs.Common.{◌≡◌, drop, map}
use Rattle.rr_fakes.specs.Dial.{peer_of, peer_view}
use Rattle.rr_fakes.proofs.dial.peer_of.Given as goal

-- the peers before are of other addresses
abbrev pub invariant-loop-peer : goal.invariant-loop-peer
invariant-loop-peer l = peer_of (map peer_view (drop l.peer-index l.peers)) l.address
    ≡ peer_of (map peer_view l.peers) l.address
