use Rattle.std.proofs.Common.{rules}
use Rattle.rr_line.proofs.known_line.KnownLine.may_precede.Goals as goal

pub returns-then-eq-clause-above : goal.returns-then-eq-clause-above
returns-then-eq-clause-above c = search rules
