use Rattle.std.proofs.Common.{rules}
use Rattle.rr_web.proofs.rows.row_of.Goals as goal

pub returns : goal.returns
returns c = search rules
