-- The numbers of a node's peers as families.
use Rattle.std.specs.Prelude.{List, [], ◌∷◌, codes, map}
use Rattle.rr_web.specs.declared.family.Amount.{Amount}
use Rattle.rr_web.specs.declared.family.Amount.TheVariants.{Whole, Thousandths}
use Rattle.rr_web.specs.declared.family.FamilyKind.TheVariants.{Gauge}
use Rattle.rr_web.specs.declared.peer_metrics.PeerNumber.{PeerNumber}
use Rattle.rr_web.specs.declared.peer_metrics.PeerNumber.TheVariants.{Up, LagBytes, Lag, OwnOrigin}
use Rattle.rr_web.specs.declared.peer_metrics.PeerNumbers.{PeerNumbers}
use Rattle.rr_web.specs.Family.{SampleView}
use Rattle.rr_web.specs.Numbers.{Numbers, family_of}

abbrev pub amount_of : PeerNumber → PeerNumbers → Amount
amount_of Up peer = Whole peer.up
amount_of LagBytes peer = Whole peer.lag_bytes
amount_of Lag peer = Thousandths peer.lag
amount_of OwnOrigin peer = Whole peer.own_origin

abbrev pub peer_sample : PeerNumber → PeerNumbers → SampleView
peer_sample number peer =
    record { labels = (codes "peer", peer.address.items) ∷ []; amount = amount_of number peer }

abbrev pub peer_samples : PeerNumber → List PeerNumbers → List SampleView
peer_samples number peers = map (peer_sample number) peers

abbrev pub peer_families : List PeerNumbers → List Numbers
peer_families peers =
    family_of Gauge (codes "rr_peer_up") (peer_samples Up peers)
    ∷ family_of Gauge (codes "rr_peer_lag_bytes") (peer_samples LagBytes peers)
    ∷ family_of Gauge (codes "rr_peer_lag_seconds") (peer_samples Lag peers)
    ∷ family_of Gauge (codes "rr_peer_own_origin") (peer_samples OwnOrigin peers) ∷ []
