use Rattle.rr_config.proofs.KeysLemmas.{node_configs_are_of_their_keys}
use Rattle.rr_config.proofs.laws.node_configs_are_of_their_keys.Goals as goal

pub returns : goal.returns
returns c = node_configs_are_of_their_keys
