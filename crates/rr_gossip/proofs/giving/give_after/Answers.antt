use Rattle.std.proofs.Common.{rules}
use Rattle.rr_gossip.proofs.giving.give_after.Goals as goal

pub returns : goal.returns
returns g c = search rules
