use Rattle.rr_desk.proofs.KeeperHistoriesLemmas as histories
use Rattle.rr_desk.proofs.laws.keepers_have_histories.Goals as goal

pub returns : goal.returns
returns c = record {
  opening = histories.opening_is_history;
  put = histories.put_is_a_step;
  write =
      histories.write_is_steps;
  join = histories.join_is_a_step;
  publish = histories.publish_is_no_step;
  others =
      histories.others_write;
}
