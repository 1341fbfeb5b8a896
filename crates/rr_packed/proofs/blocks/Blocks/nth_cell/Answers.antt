use Rattle.std.proofs.Common.{rules, ◌≡◌, ◌<◌, ◌≤◌, ◌-◌, ◌+◌, pos, ◌+ℤ◌, length, sym, ap, ◌∙◌, arith, to_z, of_z, w64}
use Rattle.std.specs.List.{slice_get}
use Rattle.std.specs.Option.{option_map}
use Rattle.rr_archive.specs.declared.entry.Entry.{Entry}
use Rattle.rr_archive.specs.Cells.{cell_of}
use Rattle.rr_archive.specs.LiveRows.{cells_from}
use Rattle.rr_archive.proofs.RowCells.{cell_later}
use Rattle.rr_archive.proofs.LiveWalks.{cells_left, left_all, left_none, left_step}
use Rattle.rr_packed.specs.Blocks.{row_at}
use Rattle.rr_packed.proofs.CellLemmas.{in_one, cell_of_next}
use Rattle.rr_packed.proofs.blocks.Blocks.nth_cell.Goals as goal

pub loop-k-init : goal.loop-k-init
loop-k-init c = ap (λ es. slice_get es c.args.i)
    (left_all (row_at c.args.self.now) (to_z w64 (of_z w64 c.args.slot)) c.args.slots)

pub returns-then-left-entries : goal.returns-then-left-entries
returns-then-left-entries c =
    let f = row_at c.args.self.now in
    let z = to_z w64 (of_z w64 c.args.slot) in
    let slot : z ≡ c.args.slot = search rules in
    let at = z +ℤ pos c.loop-k.k in
    let near = to_z w64 (of_z w64 (z +ℤ to_z w64 (of_z w64 c.from.result))) in
    let at_is : near ≡ at = search rules in
    let on = c.entries_on-entries in
    let entries = on.ensures.counted ∙ in_one f near on.result.0 on.ensures.at_least_one on.ensures.at_most
    ∙ ap (λ s. length (f s)) at_is in
    let within : c.loop-k.left < length (f at) = omega arith in
    let mapped : c.map.result ≡ option_map (λ (e : Entry). (near, e)) c.nth_entry.result = search rules in
    mapped ∙ ap (option_map (λ (e : Entry). (near, e))) c.nth_entry.ensures
    ∙ ap (λ s. option_map (λ (e : Entry). (s, e)) (slice_get (f s) c.loop-k.left)) at_is
    ∙ sym (cell_of_next f z c.args.slots c.loop-k.k c.loop-k.left c.loop-k-test.true within)
    ∙ ap (option_map cell_of) (c.loop-k.invariant
    ∙ ap (λ s. slice_get (cells_from f s c.args.slots) c.args.i) slot)

pub loop-k-preserved : goal.loop-k-preserved
loop-k-preserved c =
    let f = row_at c.args.self.now in
    let z = to_z w64 (of_z w64 c.args.slot) in
    let at = z +ℤ pos c.loop-k.k in
    let near = to_z w64 (of_z w64 (z +ℤ to_z w64 (of_z w64 c.from.result))) in
    let at_is : near ≡ at = search rules in
    let on = c.entries_on-entries in
    let entries = on.ensures.counted ∙ in_one f near on.result.0 on.ensures.at_least_one on.ensures.at_most
    ∙ ap (λ s. length (f s)) at_is in
    let past : length (f at) ≤ c.loop-k.left = omega arith in
    let rest = cells_left f z c.args.slots (c.loop-k.k + 1) in
    ap (λ n. slice_get rest (c.loop-k.left - n)) entries
    ∙ sym (cell_later at (f at) rest c.loop-k.left past)
    ∙ ap (λ es. slice_get es c.loop-k.left) (sym (left_step f z c.args.slots c.loop-k.k c.loop-k-test.true))
    ∙ c.loop-k.invariant

pub returns : goal.returns
returns c =
    let f = row_at c.args.self.now in
    let z = to_z w64 (of_z w64 c.args.slot) in
    let slot : z ≡ c.args.slot = search rules in
    let past : c.loop-k.k ≡ c.args.slots = omega arith in
    ap (option_map cell_of) (
    ap (λ es. slice_get es c.loop-k.left)
    (sym (ap (cells_left f z c.args.slots) past ∙ left_none f z c.args.slots))
    ∙ c.loop-k.invariant ∙ ap (λ s. slice_get (cells_from f s c.args.slots) c.args.i) slot)
