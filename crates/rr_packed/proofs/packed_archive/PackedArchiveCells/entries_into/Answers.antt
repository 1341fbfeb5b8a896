use Rattle.std.proofs.Common.{rules, ◌≡◌, true, false, cond, [], ◌++◌, length, sym, ap, ◌∙◌, arith, to_z, of_z, w64}
use Rattle.rr_join.specs.Horizon.{is_above}
use Rattle.rr_archive.specs.Cells.{row_of}
use Rattle.rr_archive.specs.LiveRows.{cells_by}
use Rattle.rr_archive.proofs.LiveRowsLemmas.{row_of-cells_by}
use Rattle.rr_packed.specs.Blocks.{row_at}
use Rattle.rr_packed.proofs.packed_archive.PackedArchiveCells.entries_into.Goals as goal

pub returns-then-not-is_live-clause-written : goal.returns-then-not-is_live-clause-written
returns-then-not-is_live-clause-written c =
    let a = c.args.self.now in
    let f = row_at a.blocks in
    let dead : is_above a.rows a.newest c.args.slot ≡ false = search rules in
    let none : c.clear.new.self.items ≡ [] = search rules in
    none ∙ sym (row_of-cells_by f a.rows a.newest a.held.ascend a.held.none_later c.args.slot
    ∙ ap (λ b. cond b (f c.args.slot) []) dead)

pub returns-in-Err-clause-room : goal.returns-in-Err-clause-room
returns-in-Err-clause-room c = λ room.
    let a = c.args.self.now in
    let f = row_at a.blocks in
    let slot : to_z w64 (of_z w64 c.args.slot) ≡ c.args.slot = search rules in
    let live : is_above a.rows a.newest c.args.slot ≡ true = search rules in
    let held : length (row_of (cells_by a.rows a.newest f) c.args.slot) ≡ length (f c.args.slot) =
    ap length (row_of-cells_by f a.rows a.newest a.held.ascend a.held.none_later c.args.slot
    ∙ ap (λ b. cond b (f c.args.slot) []) live) in
    let len = c.clear.ensures.len in
    let none : length c.clear.new.self.items ≡ 0 = search rules in
    let capacity = c.clear.ensures.capacity in
    (rw slot at c.in-Err.ensures.room) (omega arith)

pub returns-clause-written : goal.returns-clause-written
returns-clause-written c =
    let a = c.args.self.now in
    let f = row_at a.blocks in
    let slot : to_z w64 (of_z w64 c.args.slot) ≡ c.args.slot = search rules in
    let live : is_above a.rows a.newest c.args.slot ≡ true = search rules in
    let none : c.clear.new.self.items ≡ [] = search rules in
    (rw slot at c.in_default.ensures.added) ∙ ap (λ es. es ++ f c.args.slot) none
    ∙ sym (row_of-cells_by f a.rows a.newest a.held.ascend a.held.none_later c.args.slot
    ∙ ap (λ b. cond b (f c.args.slot) []) live)
