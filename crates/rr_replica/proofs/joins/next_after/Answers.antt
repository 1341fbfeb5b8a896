use Rattle.std.proofs.Common.{rules}
use Rattle.rr_replica.proofs.joins.next_after.Goals as goal

pub returns-else-eq : goal.returns-else-eq
returns-else-eq c = search rules
