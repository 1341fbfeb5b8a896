use Rattle.rr_replication.proofs.FollowLemmas.{peers_catch_up}
use Rattle.rr_replication.proofs.laws.peers_catch_up.Goals as goal

pub returns : goal.returns
returns c = peers_catch_up
