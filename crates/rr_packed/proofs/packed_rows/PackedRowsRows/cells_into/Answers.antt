use Rattle.std.proofs.Common.{rules, ◌≡◌, ◌+◌, ◌-◌, ◌++◌, ℤ, length, vec_len, sym, ap, ◌∙◌, to_z, of_z, w64, arith}
use Rattle.std.proofs.lemmas.List.{append-nil, length-append}
use Rattle.rr_packed.specs.PackedRows.{cells_of_rows, cells_packed, items_packed, left_of}
use Rattle.rr_packed.proofs.RowMoves.{all_moved, moved_to, one_left, one_moved, slot_moved}
use Rattle.rr_packed.proofs.packed_rows.PackedRowsRows.cells_into.Goals as goal

pub loop-cell-preserved : goal.loop-cell-preserved
loop-cell-preserved c =
    let first = c.args.first.value in
    let number = c.in-Some.cell.number.value in
    let cell = c.in-Some.cell in
    let at = slot_moved c.args.slot c.from.result first number c.ranges.slot c.requires c.if-cell-first.false
    cell.number.fits c.from.ensures in
    let before = c.loop-cell.invariant.capacity in
    let after = c.push.ensures.capacity in
    record {
      added = one_moved first (to_z w64 (of_z w64 c.args.slot)) c.loop-cell.run.items c.push.new.self.items
          (left_of c.loop-cell.cells.decoder.cells) (left_of c.next.new.self.decoder.cells) number _ c.in-Some.cell.entry
          c.if-cell-first.false c.in-Some.ensures at c.in_ok-push.ensures.items ∙ c.loop-cell.invariant.added;
      capacity = omega arith;
    }

pub returns-in_err-push-clause-room : goal.returns-in_err-push-clause-room
returns-in_err-push-clause-room c = λ room.
    let p = c.args.self.now in
    let first = c.args.first.value in
    let number = c.in-Some.cell.number.value in
    let slot : to_z w64 (of_z w64 c.args.slot) ≡ c.args.slot = search rules in
    let moved = moved_to first (to_z w64 (of_z w64 c.args.slot)) (left_of c.loop-cell.cells.decoder.cells) in
    let all = ap length (c.loop-cell.invariant.added
    ∙ ap (λ l. c.args.run.now.items ++ l)
    (ap (λ (z : ℤ). moved_to first z (cells_packed p.bytes.items)) slot
    ∙ ap (moved_to first c.args.slot) p.packed.ordered
    ∙ all_moved first c.args.slot (items_packed p.bytes.items) 64 (omega arith))) in
    let prefix = length-append c.loop-cell.run.items moved in
    let rows = cells_of_rows (λ i. items_packed p.bytes.items (first + i)) c.args.slot (64 - first) in
    let behind : length (c.args.run.now.items ++ rows) ≡ length c.args.run.now.items + length rows =
    length-append c.args.run.now.items rows in
    let left = one_left first (to_z w64 (of_z w64 c.args.slot)) (left_of c.loop-cell.cells.decoder.cells)
    (left_of c.next.new.self.decoder.cells) number c.in-Some.cell.entry c.if-cell-first.false c.in-Some.ensures in
    let capacity = c.loop-cell.invariant.capacity in
    let full = c.in_err-push.ensures.full in
    let len : vec_len c.loop-cell.run ≡ length c.loop-cell.run.items = search rules in
    absurd (omega arith)

pub returns-clause-added : goal.returns-clause-added
returns-clause-added c =
    let p = c.args.self.now in
    let first = c.args.first.value in
    let slot : to_z w64 (of_z w64 c.args.slot) ≡ c.args.slot = search rules in
    let low = c.args.first.fits in
    sym (ap (λ l. c.loop-cell.run.items ++ moved_to first (to_z w64 (of_z w64 c.args.slot)) l) c.in_default.ensures
    ∙ append-nil c.loop-cell.run.items)
    ∙ c.loop-cell.invariant.added
    ∙ ap (λ l. c.args.run.now.items ++ l)
    (ap (λ (z : ℤ). moved_to first z (cells_packed p.bytes.items)) slot
    ∙ ap (moved_to first c.args.slot) p.packed.ordered
    ∙ all_moved first c.args.slot (items_packed p.bytes.items) 64 (omega arith))
