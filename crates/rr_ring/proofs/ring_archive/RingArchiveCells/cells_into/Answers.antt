use Rattle.std.proofs.Common.{rules, ◌≡◌, map, length, sym, ap, ◌∙◌, to_z, of_z, w64, arith}
use Rattle.rr_archive.specs.declared.entry.Entry.{Entry}
use Rattle.rr_archive.specs.Cells.{row_of}
use Rattle.rr_archive.proofs.CellRuns.{one_slot, one_slot_length}
use Rattle.rr_ring.specs.RingCells.{cells_in}
use Rattle.rr_ring.proofs.ring_archive.RingArchiveCells.cells_into.Goals as goal

pub returns-in-Err-clause-room : goal.returns-in-Err-clause-room
returns-in-Err-clause-room c = λ room.
    let m = cells_in c.args.self.now.newest c.args.self.now.ring in
    let slot : to_z w64 (of_z w64 c.args.slot) ≡ c.args.slot = search rules in
    let row : c.row.result.now ≡ row_of m c.args.slot = search rules in
    let none : length c.clear.new.self.items ≡ 0 = search rules in
    let same = ap length row ∙ sym (one_slot_length m c.args.slot) in
    let capacity = c.clear.ensures.capacity in
    let fits = room 1 in
    c.in-Err.ensures.room (omega arith)

pub returns-clause-written : goal.returns-clause-written
returns-clause-written c =
    let m = cells_in c.args.self.now.newest c.args.self.now.ring in
    let slot : to_z w64 (of_z w64 c.args.slot) ≡ c.args.slot = search rules in
    let row : c.row.result.now ≡ row_of m c.args.slot = search rules in
    let pushed : c.push_cells.new.cells.items ≡ map (λ e. (c.args.slot, e)) c.row.result.now = search rules in
    pushed ∙ ap (map (λ (e : Entry). (c.args.slot, e))) row ∙ sym (one_slot m c.args.slot)
