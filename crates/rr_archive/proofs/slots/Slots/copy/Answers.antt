use Rattle.std.proofs.Common.{rules, ◌≡◌, [], arith, to_z, of_z, w64}
use Rattle.rr_archive.proofs.Copying.{copied_more, copied_cells, copied_ascend}
use Rattle.rr_archive.proofs.slots.Slots.copy.Goals as goal

pub loop-slot-preserved-in_ok-insert : goal.loop-slot-preserved-in_ok-insert
loop-slot-preserved-in_ok-insert c =
    let back : to_z w64 (of_z w64 c.in-Some.slot.now) ≡ c.in-Some.slot.now = search rules in
    let updates = rw back at c.in_ok-insert.ensures.updates in
    copied_more c.args.self.now.rows.entries c.loop-slot.slot-iterator c.next.new.self c.loop-slot.rows.entries
    c.insert.new.self.entries c.in-Some.slot.now c.in-Some.row.now c.in_ok-from_slice.field-0 c.loop-slot.invariant
    (search rules) (record { at = λ q. grind (arith, updates.0 q) }) (search rules) c.insert.ensures.ordered

pub loop-slot-preserved : goal.loop-slot-preserved
loop-slot-preserved c =
    let back : to_z w64 (of_z w64 c.in-Some.slot.now) ≡ c.in-Some.slot.now = search rules in
    let updates = rw back at c.in_ok-insert.ensures.updates in
    copied_more c.args.self.now.rows.entries c.loop-slot.slot-iterator c.next.new.self c.loop-slot.rows.entries
    c.insert.new.self.entries c.in-Some.slot.now c.in-Some.row.now c.in_ok-from_slice.field-0 c.loop-slot.invariant
    (search rules) (record { at = λ q. grind (arith, updates.0 q) }) (search rules) c.insert.ensures.ordered

pub invariant_of-result : goal.invariant_of-result
invariant_of-result c =
    let none : c.loop-slot.slot-iterator ≡ [] = search rules in
    record {
      ascend = copied_ascend c.args.self.now.rows.entries c.loop-slot.slot-iterator c.loop-slot.rows.entries
          c.loop-slot.invariant none c.args.self.now.ascend;
      ordered = c.loop-slot.invariant.ordered;
    }

pub returns : goal.returns
returns c =
    let none : c.loop-slot.slot-iterator ≡ [] = search rules in
    copied_cells c.args.self.now.rows.entries c.loop-slot.slot-iterator c.loop-slot.rows.entries c.loop-slot.invariant
    none
