use Rattle.std.proofs.Common.{rules}
use Rattle.rr_web.proofs.fetches.back_to.Goals as goal

pub returns-in-Some : goal.returns-in-Some
returns-in-Some c = search rules
