use Rattle.std.proofs.Common.{rules, ◌≡◌, [], ◌∷◌, sym, ap, ◌∙◌, Some, None, to_z, of_z, w64, int_cmp}
use Rattle.std.specs.Prelude.{int_lt}
use Rattle.std.specs.List.{find}
use Rattle.std.specs.BTreeMap.Range.{entries_between}
use Rattle.std.specs.declared.ops.Bound.TheVariants.{Included, Unbounded}
use Rattle.rr_archive.specs.CellSlots.{cell_slot}
use Rattle.rr_archive.specs.Row.{is_after}
use Rattle.rr_archive.proofs.Listing.{listed_from}
use Rattle.rr_archive.proofs.NextCell.{left_from, left_more, left_found, left_none, next_cell-is}
use Rattle.rr_archive.proofs.slots.Slots.next_cell.Goals as goal

pub loop-at-init : goal.loop-at-init
loop-at-init c =
    let back : to_z w64 (of_z w64 c.args.slot) ≡ c.args.slot = search rules in
    let left : c.into_iter-at-iterator.result ≡ entries_between int_cmp (Included c.args.slot) Unbounded
    c.args.self.now.rows.entries = c.into_iter-at-iterator.ensures.into_iter_gives
    ∙ (rw back at (c.range-at-items.ensures.between tt)) in
    rw back (left_from c.args.slot c.args.origin c.args.self.now.rows.entries c.into_iter-at-iterator.result left)

pub returns-in-Some-first_after : goal.returns-in-Some-first_after
returns-in-Some-first_after c =
    let rows = c.args.self.now.rows.entries in
    let back : to_z w64 (of_z w64 c.args.slot) ≡ c.args.slot = search rules in
    let at = c.in-Some.at.now in
    let kept : to_z w64 (of_z w64 at) ≡ at = search rules in
    let more : c.loop-at.at-iterator ≡ (at, c.in-Some.row.now) ∷ c.next.new.self = search rules in
    let some : find (is_after (int_lt c.args.slot at) c.args.origin) c.in-Some.row.now.items
    ≡ Some c.in-Some-first_after.entry = sym (rw (back, kept, c.deref.ensures.value) at c.first_after.ensures)
    ∙ c.in-Some-first_after.is in
    ap (λ z. Some (z, c.in-Some-first_after.entry)) kept
    ∙ sym (left_found c.args.slot at c.args.origin rows c.loop-at.at-iterator c.next.new.self c.in-Some.row.now
    c.in-Some-first_after.entry (rw back at c.loop-at.invariant) more some)
    ∙ sym (next_cell-is rows (cell_slot c.args.slot c.args.origin)
    (listed_from rows c.args.self.now.ordered c.args.self.now.ascend))

pub loop-at-preserved : goal.loop-at-preserved
loop-at-preserved c =
    let rows = c.args.self.now.rows.entries in
    let back : to_z w64 (of_z w64 c.args.slot) ≡ c.args.slot = search rules in
    let at = c.in-Some.at.now in
    let more : c.loop-at.at-iterator ≡ (at, c.in-Some.row.now) ∷ c.next.new.self = search rules in
    let kept : to_z w64 (of_z w64 at) ≡ at = search rules in
    let none : find (is_after (int_lt c.args.slot at) c.args.origin) c.in-Some.row.now.items ≡ None =
    sym (rw (back, kept, c.deref.ensures.value) at c.first_after.ensures) ∙ c.in_default.is in
    rw back (left_more c.args.slot at c.args.origin rows c.loop-at.at-iterator c.next.new.self c.in-Some.row.now
    (rw back at c.loop-at.invariant) more none)

pub returns : goal.returns
returns c =
    let rows = c.args.self.now.rows.entries in
    let back : to_z w64 (of_z w64 c.args.slot) ≡ c.args.slot = search rules in
    let none : c.loop-at.at-iterator ≡ [] = search rules in
    sym (next_cell-is rows (cell_slot c.args.slot c.args.origin)
    (listed_from rows c.args.self.now.ordered c.args.self.now.ascend)
    ∙ left_none c.args.slot c.args.origin rows c.loop-at.at-iterator (rw back at c.loop-at.invariant) none)
