use Rattle.std.proofs.Common.{◌≡◌, ◌≤◌, ◌+ℤ◌, ◌+◌, ◌*◌, ◌^◌, rules, arith, subst, sym, to_z, of_z}
use mir.Syntax.{w128}
use Rattle.std.proofs.lemmas.Int.{ints}
use Rattle.rr_fetch.specs.Consolidation.{IsBounded}
use Rattle.rr_fetch.proofs.SumLemmas.{bounded_with, bounded_fits}
use Rattle.rr_fetch.proofs.sum.Sum.with.Goals as goal

pub overflow_add-result-2 : goal.overflow_add-result-2
overflow_add-result-2 c =
    let more = c.args.contribution.now in
    let total : to_z w128 (of_z w128 c.args.self.total) ≡ c.args.self.total = search rules in
    let sum : to_z w128 (of_z w128 more.sum) ≡ more.sum = search rules in
    let is = bounded_with c.args.self.count more.count c.args.self.total more.sum more.min more.max c.requires.bounded
    (search rules) (search rules) c.requires.summable.low c.requires.summable.high in
    let few : c.args.self.count + more.count ≤ 65537 * 2 ^ 40 =
    omega (arith, c.requires.count_fits, c.requires.summable.few) in
    rw (total, sum) (bounded_fits _ _ few is)

bounded : (c : goal.After-struct_told-2-1) → IsBounded (c.args.self.count + c.args.contribution.now.count)
    (c.args.self.total +ℤ c.args.contribution.now.sum)
bounded c =
    let more = c.args.contribution.now in
    bounded_with c.args.self.count more.count c.args.self.total more.sum more.min more.max c.requires.bounded
    (search rules) (search rules) c.requires.summable.low c.requires.summable.high

pub returns : goal.returns
returns c =
    let is = bounded c in
    let few = c.requires.count_fits in
    record {
      count = search rules;
      total = omega (arith, ints);
      bounded = subst (IsBounded (c.args.self.count + c.args.contribution.now.count)) (sym (omega (arith, ints))) is;
    }
