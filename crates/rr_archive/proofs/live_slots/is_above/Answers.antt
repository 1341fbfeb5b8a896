use Rattle.std.proofs.Common.{rules, ◌≡◌, pos, ◌-ℤ◌, refl, to_z, of_z}
use mir.Syntax.{w128}
use Rattle.rr_archive.proofs.live_slots.is_above.Goals as goal

pub returns : goal.returns
returns c =
    let newest : to_z w128 (of_z w128 c.from.result) ≡ c.args.newest = search rules in
    let rows : to_z w128 (of_z w128 c.from-2.result) ≡ pos c.args.rows = search rules in
    let slot : to_z w128 (of_z w128 c.from-3.result) ≡ c.args.slot = search rules in
    let horizon : to_z w128 (of_z w128 (c.args.newest -ℤ pos c.args.rows)) ≡ (c.args.newest -ℤ pos c.args.rows) =
    search rules in
    rw (newest, rows, slot, horizon) refl
