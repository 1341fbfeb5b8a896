use Rattle.std.proofs.Common.{rules}
use Rattle.rr_gossip.proofs.giver.Giver.with_limit.Goals as goal

pub returns : goal.returns
returns c = search rules
