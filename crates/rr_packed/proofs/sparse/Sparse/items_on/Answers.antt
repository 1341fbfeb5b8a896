use Rattle.std.proofs.Common.{rules, ◌+◌, ◌<◌, ◌^◌, length, ap, arith}
use Rattle.rr_packed.proofs.RankLemmas.{rank_at_most}
use Rattle.rr_packed.proofs.sparse.Sparse.items_on.Goals as goal

pub overflow_add-to : goal.overflow_add-to
overflow_add-to g c =
    let s = c.args.self.now in
    let fits : s.mask < 2 ^ 64 = search rules in
    let most = rank_at_most s.mask (c.args.rows.first.value + c.args.rows.count) fits c.args.rows.within in
    let counted = s.counted in
    let on = c.ones_on.ensures in
    let from = c.rank-from.ensures.rank in
    let len : length s.items.items < 2 ^ 64 = search rules in
    omega arith

pub slice_bounds-result-end : goal.slice_bounds-result-end
slice_bounds-result-end g c =
    let s = c.args.self.now in
    let fits : s.mask < 2 ^ 64 = search rules in
    let most = rank_at_most s.mask (c.args.rows.first.value + c.args.rows.count) fits c.args.rows.within in
    let counted = s.counted in
    let on = c.ones_on.ensures in
    let from = c.rank-from.ensures.rank in
    let all = ap length c.deref.ensures.value in
    omega arith
