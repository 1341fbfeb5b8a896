use Rattle.rr_config.proofs.KeysLemmas.{configs_are_of_their_keys}
use Rattle.rr_config.proofs.laws.configs_are_of_their_keys.Goals as goal

pub returns : goal.returns
returns c = configs_are_of_their_keys
