use Rattle.std.proofs.Common.{rules}
use Rattle.rr_delta.proofs.name.Name.of.Goals as goal

pub returns : goal.returns
returns c = search rules
