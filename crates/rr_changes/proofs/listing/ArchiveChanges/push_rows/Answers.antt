use Rattle.std.proofs.Common.{rules, ◌≡◌, ◌++◌, ◌∙◌, ◌+ℤ◌, ◌<ℤ◌, ◌≤ℤ◌, ℤ, pos, map, false, sym, ap, arith, to_z, of_z, w64}
use Rattle.std.specs.Prelude.{FitsSigned, int_lt}
use Rattle.std.proofs.lemmas.Int.{ints}
use Rattle.rr_archive.specs.Cells.{row_of}
use Rattle.rr_changes.specs.Listing.{cells_between}
use Rattle.rr_changes.proofs.SlotLemmas.{all_runs, row_more}
use Rattle.rr_changes.proofs.listing.ArchiveChanges.push_rows.Goals as goal

past_the_last : (slot last : ℤ) → int_lt slot (last +ℤ pos 1) ≡ false → last <ℤ slot
past_the_last slot last out = grind (arith, ints)

pub loop-slot-preserved : goal.loop-slot-preserved
loop-slot-preserved g c =
    let m = g.A.Cells.cells c.args.archive.now in
    let slot = to_z w64 c.loop-slot.slot-bits in
    let last = c.args.slots.now.last in
    let in_range : slot ≤ℤ last = search rules in
    let next : to_z w64 (of_z w64 (slot +ℤ pos 1)) ≡ slot +ℤ pos 1 = search rules in
    let row : c.entries_into.new.row.items ≡ row_of m slot = search rules in
    let pushed : c.push_row.new.cells.items ≡ c.loop-slot.self-inside.cells.items ++ map (λ e. (slot, e)) (row_of m slot) =
    search rules in
    ap (λ (z : ℤ). c.push_row.new.cells.items ++ cells_between m z (last +ℤ pos 1)) next
    ∙ row_more m slot last c.loop-slot.self-inside.cells.items c.push_row.new.cells.items in_range pushed
    ∙ c.loop-slot.invariant

pub returns : goal.returns
returns g c =
    let m = g.A.Cells.cells c.args.archive.now in
    let top = c.requires.last.1 in
    let low = c.requires.last.0 in
    let fits : FitsSigned w64 (c.args.slots.now.last +ℤ pos 1) = omega (arith, ints, top, low) in
    let end : to_z w64 (of_z w64 (to_z w64 (of_z w64 c.args.slots.now.last) +ℤ pos 1)) ≡ c.args.slots.now.last +ℤ pos 1 =
    search rules in
    let past : c.args.slots.now.last <ℤ to_z w64 c.loop-slot.slot-bits =
    past_the_last (to_z w64 c.loop-slot.slot-bits) c.args.slots.now.last
    (ap (int_lt (to_z w64 c.loop-slot.slot-bits)) (sym end) ∙ c.loop-slot-test.false) in
    all_runs m (to_z w64 c.loop-slot.slot-bits) c.args.slots.now.last c.args.self.now c.loop-slot.self-inside.cells.items
    (cells_between m c.args.slots.now.first (c.args.slots.now.last +ℤ pos 1)) past c.loop-slot.invariant
