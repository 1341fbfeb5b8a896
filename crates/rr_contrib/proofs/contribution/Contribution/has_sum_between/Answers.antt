use Rattle.std.proofs.Common.{rules, ◌≡◌, pos, ◌*ℤ◌, to_z, of_z}
use mir.Syntax.{w128}
use Rattle.rr_contrib.proofs.contribution.Contribution.has_sum_between.Goals as goal

pub returns : goal.returns
returns c =
    let low : to_z w128 (of_z w128 c.times.result) ≡ (pos c.args.self.now.count *ℤ c.args.self.now.min) =
    search rules in
    let sum : to_z w128 (of_z w128 c.args.self.now.sum) ≡ c.args.self.now.sum = search rules in
    let high : to_z w128 (of_z w128 c.times-2.result) ≡ (pos c.args.self.now.count *ℤ c.args.self.now.max) =
    search rules in
    rw (low, sum, high) at c.is_between.ensures
