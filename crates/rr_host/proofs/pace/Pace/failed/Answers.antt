use Rattle.std.proofs.Common.{rules}
use Rattle.rr_host.proofs.pace.Pace.failed.Goals as goal

pub returns : goal.returns
returns c = search rules
