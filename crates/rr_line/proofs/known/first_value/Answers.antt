use Rattle.std.proofs.Common.{rules}
use Rattle.rr_line.proofs.known.first_value.Goals as goal

pub returns : goal.returns
returns c = search rules
