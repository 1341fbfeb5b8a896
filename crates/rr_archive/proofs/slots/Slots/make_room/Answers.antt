use Rattle.std.proofs.Common.{rules, ◌≡◌, [], ap, ◌∙◌, Some, None, arith}
use Rattle.std.proofs.Math.Facts.{to_z-of_z}
use Rattle.std.specs.Int.{w64}
use Rattle.rr_archive.specs.ArchiveState.{row_in}
use Rattle.rr_archive.proofs.ArchiveStateLemmas.{Sets, items_of, set_alike}
use Rattle.rr_archive.proofs.slots.Slots.make_room.Goals as goal

pub returns-in-Some-clause-cells : goal.returns-in-Some-clause-cells
returns-in-Some-clause-cells c =
    let back = to_z-of_z {w = w64} {z = c.args.slot} (search rules) in
    let has : Some c.in-Some.row.now ≡ row_in c.args.self.now.rows.entries c.args.slot =
    rw back at c.in-Some.ensures.value in
    let updates = (c.get_mut.follows.holds c.reserve.new.self).3 (search rules) in
    let sets : Sets c.args.self.now.rows.entries (c.get_mut.follows.lender c.reserve.new.self).entries c.args.slot
    c.reserve.new.self = record { at = λ q. grind (arith, updates.0 q) } in
    set_alike _ _ c.args.slot c.reserve.new.self sets (c.reserve.ensures.items ∙ ap items_of has)

pub returns-in_ok-insert-in-None-clause-cells : goal.returns-in_ok-insert-in-None-clause-cells
returns-in_ok-insert-in-None-clause-cells c =
    let back = to_z-of_z {w = w64} {z = c.args.slot} (search rules) in
    let none : None ≡ row_in c.args.self.now.rows.entries c.args.slot = rw back at c.in-None.ensures.value in
    let same : c.get_mut.follows.lender-at-none ≡ c.args.self.now.rows = c.get_mut.follows.holds-at-none in
    let updates = rw same at c.in_ok-insert-in-None.ensures.updates in
    let sets : Sets c.args.self.now.rows.entries c.insert.new.self.entries c.args.slot c.in_ok-row-in-None.row =
    record { at = λ q. grind (arith, updates.0 q) } in
    let items : c.in_ok-row-in-None.row.items ≡ [] = search rules in
    set_alike _ _ c.args.slot c.in_ok-row-in-None.row sets (items ∙ ap items_of none)
