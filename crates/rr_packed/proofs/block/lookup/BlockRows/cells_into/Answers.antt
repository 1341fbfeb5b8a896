use Rattle.std.proofs.Common.{rules, ◌≡◌, ◌+◌, ◌-◌, ◌≤◌, ◌++◌, ℕ, pos, ◌+ℤ◌, map, length, sym, ap, ◌∙◌, to_z, of_z, w64, arith, true≢false}
use Rattle.std.proofs.lemmas.List.{append-nil, append_assoc, length-append}
use Rattle.rr_archive.specs.declared.entry.Entry.{Entry}
use Rattle.rr_packed.specs.BlockRows.{items_in}
use Rattle.rr_packed.specs.PackedRows.{cells_of_rows}
use Rattle.rr_packed.proofs.RowCellLemmas.{length_more, no_rows, rows_at_most, rows_more}
use Rattle.rr_packed.proofs.block.lookup.BlockRows.cells_into.Goals as goal

pub loop-i-init : goal.loop-i-init
loop-i-init c =
    let row = λ (i : ℕ). items_in c.args.self.now (c.args.first.value + i) in
    let slot : to_z w64 (of_z w64 c.args.slot) ≡ c.args.slot = search rules in
    record {
      added = sym (ap (λ s. c.args.run.now.items ++ cells_of_rows row s 0) slot
          ∙ ap (λ l. c.args.run.now.items ++ l) (no_rows row c.args.slot) ∙ append-nil c.args.run.now.items);
      capacity = omega arith;
    }

pub loop-i-preserved : goal.loop-i-preserved
loop-i-preserved c =
    let row = λ (i : ℕ). items_in c.args.self.now (c.args.first.value + i) in
    let i = c.loop-i.i in
    let was = c.args.run.now.items in
    let slot : to_z w64 (of_z w64 c.args.slot) ≡ c.args.slot = search rules in
    let pushed : c.push_cells.new.cells.items ≡ c.loop-i.run.items
    ++ map (λ (e : Entry). (c.args.slot +ℤ pos c.loop-i.i, e)) c.as_slice.result.now = search rules in
    let is : c.as_slice.result.now ≡ row i = search rules in
    let before = c.loop-i.invariant.capacity in
    let after = c.push_cells.ensures.capacity in
    record {
      added = pushed ∙ ap (λ es. c.loop-i.run.items ++ map (λ (e : Entry). (c.args.slot +ℤ pos i, e)) es) is
          ∙ ap (λ l. l ++ map (λ (e : Entry). (c.args.slot +ℤ pos i, e)) (row i)) (c.loop-i.invariant.added
          ∙ ap (λ s. was ++ cells_of_rows row s i) slot)
          ∙ append_assoc was (cells_of_rows row c.args.slot i) (map (λ (e : Entry). (c.args.slot +ℤ pos i, e)) (row i))
          ∙ ap (λ l. was ++ l) (sym (rows_more row c.args.slot i))
          ∙ ap (λ s. was ++ cells_of_rows row s (i + 1)) (sym slot);
      capacity = omega arith;
    }

pub returns-in_err-push_cells-clause-room : goal.returns-in_err-push_cells-clause-room
returns-in_err-push_cells-clause-room c = λ room.
    let row = λ (i : ℕ). items_in c.args.self.now (c.args.first.value + i) in
    let i = c.loop-i.i in
    let was = c.args.run.now.items in
    let slot : to_z w64 (of_z w64 c.args.slot) ≡ c.args.slot = search rules in
    let is : c.as_slice.result.now ≡ row i = search rules in
    let so_far = ap length (c.loop-i.invariant.added ∙ ap (λ s. was ++ cells_of_rows row s i) slot)
    ∙ length-append was (cells_of_rows row c.args.slot i) in
    let more = length_more row c.args.slot i in
    let same : length c.as_slice.result.now ≡ length (row i) = ap length is in
    let within : i + 1 ≤ 64 - c.args.first.value = omega arith in
    let most = rows_at_most row c.args.slot (i + 1) (64 - c.args.first.value) within in
    let capacity = c.loop-i.invariant.capacity in
    absurd (true≢false (sym (c.in_err-push_cells.ensures.room (omega arith))))
