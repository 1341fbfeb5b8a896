use Rattle.std.proofs.Common.{rules}
use Rattle.rr_web.proofs.ask.is_get.Goals as goal

pub returns-else-eq : goal.returns-else-eq
returns-else-eq c = search rules
