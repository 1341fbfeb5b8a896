use Rattle.std.proofs.Common.{rules, ◌≡◌, ◌-◌, ◌<◌, ◌≤◌, List, [], ◌∷◌, length, sym, ap, ◌∙◌, Some, arith, to_z, of_z, w64}
use Rattle.std.specs.List.{slice_get}
use Rattle.std.specs.Option.{option_map}
use Rattle.rr_archive.specs.declared.entry.Entry.{Entry}
use Rattle.rr_archive.specs.Cells.{cell_of}
use Rattle.rr_archive.proofs.RowCells.{cell_here, cell_later}
use Rattle.rr_archive.proofs.Listing.{cells_list, entries-cells_in, listed_from}
use Rattle.rr_archive.proofs.slots.Slots.nth_cell.Goals as goal

pub returns-then-left-len : goal.returns-then-left-len
returns-then-left-len c =
    let slot = c.in-Some.slot.now in
    let row : List Entry = c.in-Some.row.now.items in
    let d : Entry = c.index.result.now in
    let more : c.loop-slot.slot-iterator ≡ (slot, c.in-Some.row.now) ∷ c.next.new.self = search rules in
    let within : c.loop-slot.left < length row = omega arith in
    let kept : to_z w64 (of_z w64 slot) ≡ slot = search rules in
    let rows = c.args.self.now.rows.entries in
    let cells = entries-cells_in rows (listed_from rows c.args.self.now.ordered c.args.self.now.ascend) in
    ap (λ z. Some (z, d)) kept
    ∙ ap (λ (e : Entry). Some (slot, e)) c.index.ensures
    ∙ sym (cell_here slot row (cells_list c.next.new.self) c.loop-slot.left d within)
    ∙ ap (λ it. option_map cell_of (slice_get (cells_list it) c.loop-slot.left)) (sym more)
    ∙ ap (option_map cell_of) (c.loop-slot.invariant ∙ sym (ap (λ es. slice_get es c.args.i) cells))

pub loop-slot-preserved : goal.loop-slot-preserved
loop-slot-preserved c =
    let slot = c.in-Some.slot.now in
    let row : List Entry = c.in-Some.row.now.items in
    let more : c.loop-slot.slot-iterator ≡ (slot, c.in-Some.row.now) ∷ c.next.new.self = search rules in
    let past : length row ≤ c.loop-slot.left = omega arith in
    let len : c.len-left.result ≡ length row = omega arith in
    ap (λ n. slice_get (cells_list c.next.new.self) (c.loop-slot.left - n)) len
    ∙ sym (cell_later slot row (cells_list c.next.new.self) c.loop-slot.left past)
    ∙ ap (λ it. slice_get (cells_list it) c.loop-slot.left) (sym more)
    ∙ c.loop-slot.invariant

pub returns : goal.returns
returns c =
    let none : c.loop-slot.slot-iterator ≡ [] = search rules in
    let rows = c.args.self.now.rows.entries in
    let cells = entries-cells_in rows (listed_from rows c.args.self.now.ordered c.args.self.now.ascend) in
    ap (λ it. option_map cell_of (slice_get (cells_list it) c.loop-slot.left)) (sym none)
    ∙ ap (option_map cell_of) (c.loop-slot.invariant ∙ sym (ap (λ es. slice_get es c.args.i) cells))
