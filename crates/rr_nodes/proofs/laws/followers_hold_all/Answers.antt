use Rattle.rr_nodes.proofs.FollowersLemmas as followers
use Rattle.rr_nodes.proofs.laws.followers_hold_all.Goals as goal

pub returns : goal.returns
returns c = record {
  others = followers.keepers_go_on;
  journal = followers.followers_hold_all;
  checkpoint = followers.checkpointed_hold_all;
}
