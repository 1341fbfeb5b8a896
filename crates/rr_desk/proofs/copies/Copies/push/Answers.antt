use Rattle.std.proofs.Common.{rules}
use Rattle.rr_desk.proofs.copies.Copies.push.Goals as goal

pub returns : goal.returns
returns g c = search rules
