use Rattle.rr_desk.proofs.KeeperHistoriesLemmas as histories
use Rattle.rr_desk.proofs.laws.loaded_nodes_are_known.Goals as goal

pub returns : goal.returns
returns c = record { loaded = histories.loaded_is_known; raised = histories.raised_is_known }
