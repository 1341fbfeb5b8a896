use Rattle.std.proofs.Common.{rules, ◌≡◌, ◌+◌, ◌≤◌, pos, ◌+ℤ◌, ◌-ℤ◌, length, sym, ap, ◌∙◌, arith, to_z, of_z, w64}
use Rattle.std.specs.FinMap.{len-entries}
use Rattle.rr_archive.proofs.FewCells.{few_cells}
use Rattle.rr_archive.specs.LiveRows.{cells_by}
use Rattle.rr_archive.proofs.LiveWalks.{cells_left, left_none, entries_live, entries_none}
use Rattle.rr_packed.specs.BlockRows.{entries_in_all}
use Rattle.rr_packed.specs.Blocks.{row_at}
use Rattle.rr_packed.proofs.CountLemmas.{left_in_all}
use Rattle.rr_packed.proofs.packed_archive.PackedArchiveCells.cell_count.Goals as goal

pub returns-in_default : goal.returns-in_default
returns-in_default c =
    let a = c.args.self.now in
    sym (len-entries (cells_by a.rows a.newest (row_at a.blocks))
    ∙ ap length (entries_none a.rows a.newest (row_at a.blocks) a.held.ascend c.in_default.is))

pub loop-k-init : goal.loop-k-init
loop-k-init c =
    let a = c.args.self.now in
    let f = row_at a.blocks in
    let z = to_z w64 (of_z w64 c.first_live-first.result) in
    let first : z ≡ ((c.in-Some.newest -ℤ pos a.rows) +ℤ pos 1) = search rules in
    let all = ap length (entries_live a.rows a.newest f a.held.ascend c.in-Some.newest z c.in-Some.is first)
    ∙ sym (len-entries (cells_by a.rows a.newest f)) in
    record { counted = omega arith; within = omega arith }

pub overflow_add-count : goal.overflow_add-count
overflow_add-count c =
    let a = c.args.self.now in
    let f = row_at a.blocks in
    let z = to_z w64 (of_z w64 c.first_live-first.result) in
    let on = c.entries_on-on.result.0 in
    let at_is : to_z w64 (of_z w64 (z +ℤ to_z w64 (of_z w64 c.from.result))) ≡ z +ℤ pos c.loop-k.k = search rules in
    let within : c.loop-k.k + on ≤ a.rows = omega arith in
    let step = left_in_all f z a.rows c.loop-k.k on within in
    let entries = c.entries_on-on.ensures.counted ∙ ap (λ y. entries_in_all (λ i. f (y +ℤ pos i)) on) at_is in
    let few = few_cells (cells_by a.rows a.newest f) a.held.in_range in
    let so_far = c.loop-k.invariant.counted in
    record { fits = omega arith }

pub loop-k-preserved : goal.loop-k-preserved
loop-k-preserved c =
    let a = c.args.self.now in
    let f = row_at a.blocks in
    let z = to_z w64 (of_z w64 c.first_live-first.result) in
    let on = c.entries_on-on.result.0 in
    let at_is : to_z w64 (of_z w64 (z +ℤ to_z w64 (of_z w64 c.from.result))) ≡ z +ℤ pos c.loop-k.k = search rules in
    let within : c.loop-k.k + on ≤ a.rows = omega arith in
    let step = left_in_all f z a.rows c.loop-k.k on within in
    let entries = c.entries_on-on.ensures.counted ∙ ap (λ y. entries_in_all (λ i. f (y +ℤ pos i)) on) at_is in
    let so_far = c.loop-k.invariant.counted in
    record { counted = omega arith; within = omega arith }

pub returns : goal.returns
returns c =
    let a = c.args.self.now in
    let f = row_at a.blocks in
    let z = to_z w64 (of_z w64 c.first_live-first.result) in
    let past : c.loop-k.k ≡ a.rows = omega arith in
    let none = ap length (ap (cells_left f z a.rows) past ∙ left_none f z a.rows) in
    let all = c.loop-k.invariant.counted in
    omega arith
