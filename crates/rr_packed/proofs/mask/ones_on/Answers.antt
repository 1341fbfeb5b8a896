use Rattle.std.proofs.Common.{arith}
use Rattle.rr_packed.proofs.RankLemmas.{rank_on}
use Rattle.rr_packed.proofs.mask.ones_on.Goals as goal

pub returns : goal.returns
returns c = rank_on c.args.mask c.args.rows.first.value c.args.rows.count (omega (arith, c.args.rows.within))
