use Rattle.std.proofs.Common.{rules}
use Rattle.rr_io.proofs.failing.Failing.is_due.Goals as goal

pub returns-in-Some-clause-calls : goal.returns-in-Some-clause-calls
returns-in-Some-clause-calls g c = search rules
