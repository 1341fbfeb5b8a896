use Rattle.rr_config.proofs.LimitsLemmas.{configs_are_within_limits}
use Rattle.rr_config.proofs.laws.configs_are_within_limits.Goals as goal

pub returns : goal.returns
returns c = configs_are_within_limits
