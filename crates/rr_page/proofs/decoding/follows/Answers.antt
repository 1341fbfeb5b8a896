use Rattle.std.proofs.Common.{rules}
use Rattle.rr_page.proofs.decoding.follows.Goals as goal

pub returns : goal.returns
returns c = search rules
