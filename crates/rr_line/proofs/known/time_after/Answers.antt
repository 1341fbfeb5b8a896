use Rattle.std.proofs.Common.{rules}
use Rattle.rr_line.proofs.known.time_after.Goals as goal

pub returns-clause-ended : goal.returns-clause-ended
returns-clause-ended c = search rules
