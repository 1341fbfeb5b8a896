use Rattle.rr_nodes.proofs.ReplaysLemmas as replays
use Rattle.rr_nodes.proofs.laws.replays_are_deeds.Goals as goal

pub returns : goal.returns
returns c = record {
  prefixes = replays.prefixes_are_deeds;
  synced = replays.synced_bring_all;
  last = replays.replays_make_the_last;
}
