use Rattle.std.proofs.Common.{rules}
use Rattle.rr_fakes.proofs.clock.MomentsClock.now.Goals as goal

pub returns-clause-given : goal.returns-clause-given
returns-clause-given c = search rules
