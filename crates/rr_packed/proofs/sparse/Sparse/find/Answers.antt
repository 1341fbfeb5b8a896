use Rattle.std.proofs.Common.{rules, ◌≡◌, ◌<◌, ◌^◌, arith}
use Rattle.std.specs.Int.{bit_at}
use Rattle.rr_packed.proofs.RankLemmas.{rank_within, bit_is_set}
use Rattle.rr_packed.proofs.sparse.Sparse.find.Goals as goal

pub returns-clause-within : goal.returns-clause-within
returns-clause-within g c =
    let s = c.args.self.now in
    let fits : s.mask < 2 ^ 64 = search rules in
    let has : bit_at s.mask c.args.number.value ≡ 1 =
    bit_is_set s.mask c.args.number.value (λ e. absurd (omega arith)) in
    let within = rank_within s.mask c.args.number.value fits c.args.number.fits has in
    let counted = s.counted in
    let is = c.rank.ensures.rank in
    omega arith
