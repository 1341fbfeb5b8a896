use Rattle.rr_nodes.proofs.KeepersLemmas as keepers
use Rattle.rr_nodes.proofs.laws.keepers_are_nodes.Goals as goal

pub returns : goal.returns
returns c = record {
  opening = keepers.opening_is_a_node;
  put = keepers.put_is_a_deed;
  write = keepers.write_is_deeds;
  join = keepers.join_is_a_deed;
  page = keepers.page_is_deeds;
  publish = keepers.publish_is_none;
  reopening = keepers.reopening_is_none;
}
