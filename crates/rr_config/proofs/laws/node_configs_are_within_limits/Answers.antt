use Rattle.rr_config.proofs.NodeLimitsLemmas.{node_configs_are_within_limits}
use Rattle.rr_config.proofs.laws.node_configs_are_within_limits.Goals as goal

pub returns : goal.returns
returns c = node_configs_are_within_limits
