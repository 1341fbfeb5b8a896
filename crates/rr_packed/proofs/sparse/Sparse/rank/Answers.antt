use Rattle.std.proofs.Common.{rules, ◌<◌, ◌^◌, arith}
use Rattle.rr_packed.proofs.RankLemmas.{rank_code, rank_at_most}
use Rattle.rr_packed.proofs.sparse.Sparse.rank.Goals as goal

pub returns-clause-rank : goal.returns-clause-rank
returns-clause-rank g c = rank_code c.args.self.now.mask c.args.number.value c.args.number.fits

pub returns-clause-at_most : goal.returns-clause-at_most
returns-clause-at_most g c =
    let s = c.args.self.now in
    let fits : s.mask < 2 ^ 64 = search rules in
    let is = rank_code s.mask c.args.number.value c.args.number.fits in
    let most = rank_at_most s.mask c.args.number.value fits (omega arith) in
    let counted = s.counted in
    omega arith
