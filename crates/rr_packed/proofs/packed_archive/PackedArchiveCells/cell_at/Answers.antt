use Rattle.std.proofs.Common.{rules, ◌≡◌, ℕ, ◌+◌, ◌-◌, ◌<◌, ◌≤◌, ℤ, pos, ◌+ℤ◌, ◌-ℤ◌, ◌≤ℤ◌, sym, ap, ◌∙◌, arith, to_z, of_z, w64}
use Rattle.std.specs.List.{slice_get}
use Rattle.std.specs.Option.{option_map}
use Rattle.rr_archive.specs.Cells.{cell_of}
use Rattle.rr_packed.specs.BlockRows.{entries_in_all}
use Rattle.rr_packed.specs.Blocks.{row_at}
use Rattle.rr_packed.proofs.CellLemmas.{cell_among, cell_beyond}
use Rattle.rr_archive.specs.LiveRows.{cells_from}
use Rattle.rr_archive.proofs.LiveWalks.{cells_left, left_none, entries_live, entries_none}
use Rattle.std.proofs.lemmas.Int.{ints}
use Rattle.rr_packed.proofs.packed_archive.PackedArchiveCells.cell_at.Goals as goal

pub returns-in_default : goal.returns-in_default
returns-in_default c =
    let a = c.args.self.now in
    sym (ap (λ es. option_map cell_of (slice_get es c.args.i))
    (entries_none a.rows a.newest (row_at a.blocks) a.held.ascend c.in_default.is))

pub loop-k-init : goal.loop-k-init
loop-k-init c =
    let a = c.args.self.now in
    let z = to_z w64 (of_z w64 c.first_live-first.result) in
    let first : z ≡ ((c.in-Some.newest -ℤ pos a.rows) +ℤ pos 1) = search rules in
    record {
      left = ap (λ es. slice_get es c.args.i)
          (entries_live a.rows a.newest (row_at a.blocks) a.held.ascend c.in-Some.newest z c.in-Some.is first);
      within =
          omega arith;
    }

pub nth_cell-requires : goal.nth_cell-requires
nth_cell-requires c =
    let a = c.args.self.now in
    let z = to_z w64 (of_z w64 c.first_live-first.result) in
    let top = a.held.is_slot c.in-Some.newest c.in-Some.is in
    let first : z ≡ ((c.in-Some.newest -ℤ pos a.rows) +ℤ pos 1) = search rules in
    let at_is : to_z w64 (of_z w64 (z +ℤ to_z w64 (of_z w64 c.from.result))) ≡ z +ℤ pos c.loop-k.k = search rules in
    within z c.in-Some.newest c.loop-k.k a.rows _ _ first at_is c.loop-k-test.true top.1
  where
    within : (z top : ℤ) (k rows : ℕ) (at : ℤ) (most : ℕ) → z ≡ (top -ℤ pos rows) +ℤ pos 1 → at ≡ z +ℤ pos k
        → k < rows → top ≤ℤ pos most → at ≤ℤ pos most
    within z top k rows at most first is h low = omega (arith, ints)

pub returns-then-left-entries : goal.returns-then-left-entries
returns-then-left-entries c =
    let a = c.args.self.now in
    let f = row_at a.blocks in
    let z = to_z w64 (of_z w64 c.first_live-first.result) in
    let on = c.entries_on-on in
    let at_is : to_z w64 (of_z w64 (z +ℤ to_z w64 (of_z w64 c.from.result))) ≡ z +ℤ pos c.loop-k.k = search rules in
    let entries = on.ensures.counted ∙ ap (λ y. entries_in_all (λ i. f (y +ℤ pos i)) on.result.0) at_is in
    let most : c.loop-k.k + on.result.0 ≤ a.rows = omega arith in
    c.nth_cell.ensures
    ∙ ap (λ y. option_map cell_of (slice_get (cells_from f y on.result.0) c.loop-k.left)) at_is
    ∙ ap (option_map cell_of) (sym (cell_among f z a.rows c.loop-k.k on.result.0 c.loop-k.left most (omega arith))
    ∙ c.loop-k.invariant.left)

pub loop-k-preserved : goal.loop-k-preserved
loop-k-preserved c =
    let a = c.args.self.now in
    let f = row_at a.blocks in
    let z = to_z w64 (of_z w64 c.first_live-first.result) in
    let on = c.entries_on-on in
    let at_is : to_z w64 (of_z w64 (z +ℤ to_z w64 (of_z w64 c.from.result))) ≡ z +ℤ pos c.loop-k.k = search rules in
    let entries = on.ensures.counted ∙ ap (λ y. entries_in_all (λ i. f (y +ℤ pos i)) on.result.0) at_is in
    let most : c.loop-k.k + on.result.0 ≤ a.rows = omega arith in
    record {
      left =
          ap (λ n. slice_get (cells_left f z a.rows (c.loop-k.k + on.result.0)) (c.loop-k.left - n)) entries
          ∙ sym (cell_beyond f z a.rows c.loop-k.k on.result.0 c.loop-k.left most (omega arith))
          ∙ c.loop-k.invariant.left;
      within = omega arith;
    }

pub returns : goal.returns
returns c =
    let a = c.args.self.now in
    let f = row_at a.blocks in
    let z = to_z w64 (of_z w64 c.first_live-first.result) in
    let past : c.loop-k.k ≡ a.rows = omega arith in
    sym (ap (option_map cell_of) (sym c.loop-k.invariant.left
    ∙ ap (λ es. slice_get es c.loop-k.left) (ap (cells_left f z a.rows) past ∙ left_none f z a.rows)))
