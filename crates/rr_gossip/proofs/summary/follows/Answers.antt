use Rattle.std.proofs.Common.{rules}
use Rattle.rr_gossip.proofs.summary.follows.Goals as goal

pub returns : goal.returns
returns c = search rules
