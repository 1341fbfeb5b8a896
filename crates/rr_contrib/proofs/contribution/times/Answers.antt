use Rattle.std.proofs.Common.{◌≡◌, ◌^◌, ◌-◌, pos, refl, to_z, of_z, rules}
use Rattle.std.specs.Int.{w128}
use Rattle.std.proofs.lemmas.Int.{fits_signed_mul, to_z-of_z}
use Rattle.rr_contrib.proofs.contribution.times.Goals as goal

pub overflow_mul-result : goal.overflow_mul-result
overflow_mul-result c =
    let count = to_z w128 (of_z w128 c.from.result) in
    let value = to_z w128 (of_z w128 c.from-2.result) in
    fits_signed_mul w128 count value (2 ^ 64 - 1) (2 ^ 63) (search rules) (search rules) (search rules)

pub returns : goal.returns
returns c =
    let count : to_z w128 (of_z w128 c.from.result) ≡ pos c.args.count = search rules in
    let value : to_z w128 (of_z w128 c.from-2.result) ≡ c.args.value = search rules in
    let back = to_z-of_z w128 _ (overflow_mul-result c) in
    rw (back, count, value) refl
