use Rattle.std.proofs.Common.{rules, ◌≡◌, ◌+◌, ◌<◌, pos, ◌+ℤ◌, ◌-ℤ◌, List, [], ◌∷◌, ◌++◌, length, refl, sym, ap, ◌∙◌, Some, None, arith, to_z, of_z, w64}
use Rattle.std.specs.List.{slice_get}
use Rattle.std.specs.Option.{option_map}
use Rattle.rr_archive.specs.declared.entry.Entry.{Entry}
use Rattle.rr_archive.specs.Cells.{cell_of}
use Rattle.rr_packed.specs.Blocks.{row_at}
use Rattle.rr_packed.proofs.CellLemmas.{cell_of_next}
use Rattle.rr_archive.proofs.RowCells.{row_cells}
use Rattle.rr_archive.proofs.LiveWalks.{cells_left, left_step, left_none, left_skip, entries_live, entries_none}
use Rattle.rr_packed.proofs.packed_archive.PackedArchive.first_cell.Goals as goal

pub returns-in_default : goal.returns-in_default
returns-in_default c =
    let a = c.args.self.now in
    sym (ap (λ es. option_map cell_of (slice_get es 0))
    (entries_none a.rows a.newest (row_at a.blocks) a.held.ascend c.in_default.is))

pub loop-k-init : goal.loop-k-init
loop-k-init c =
    let a = c.args.self.now in
    let z = to_z w64 (of_z w64 c.first_live-first.result) in
    let first : z ≡ ((c.in-Some.newest -ℤ pos a.rows) +ℤ pos 1) = search rules in
    record {
      left = ap (λ es. slice_get es 0)
          (entries_live a.rows a.newest (row_at a.blocks) a.held.ascend c.in-Some.newest z c.in-Some.is first);
      within = omega arith;
    }

some_there : (es : List Entry) (e : Entry) → slice_get es 0 ≡ Some e → 0 < length es
some_there [] e h = absurd (cc)
some_there (x ∷ es) e h = omega arith

none_there : (es : List Entry) → slice_get es 0 ≡ None → es ≡ []
none_there [] h = refl
none_there (x ∷ es) h = absurd (cc)

pub returns-in-Some-nth_entry : goal.returns-in-Some-nth_entry
returns-in-Some-nth_entry c =
    let a = c.args.self.now in
    let f = row_at a.blocks in
    let z = to_z w64 (of_z w64 c.first_live-first.result) in
    let at = z +ℤ pos c.loop-k.k in
    let at_is : to_z w64 (of_z w64 (z +ℤ to_z w64 (of_z w64 c.from.result))) ≡ at = search rules in
    let e : Entry = c.in-Some-nth_entry.entry in
    let some : slice_get (f at) 0 ≡ Some e =
    ap (λ y. slice_get (f y) 0) (sym at_is) ∙ sym c.nth_entry.ensures ∙ c.in-Some-nth_entry.is in
    ap (λ y. Some (y, e)) at_is
    ∙ sym (ap (option_map (λ (e : Entry). (at, e))) some)
    ∙ sym (cell_of_next f z a.rows c.loop-k.k 0 c.loop-k-test.true (some_there (f at) e some))
    ∙ ap (option_map cell_of) c.loop-k.invariant.left

pub loop-k-preserved : goal.loop-k-preserved
loop-k-preserved c =
    let a = c.args.self.now in
    let f = row_at a.blocks in
    let z = to_z w64 (of_z w64 c.first_live-first.result) in
    let at = z +ℤ pos c.loop-k.k in
    let at_is : to_z w64 (of_z w64 (z +ℤ to_z w64 (of_z w64 c.from.result))) ≡ at = search rules in
    let none : f at ≡ [] = none_there (f at)
    (ap (λ y. slice_get (f y) 0) (sym at_is) ∙ sym c.nth_entry.ensures ∙ c.in_default-nth_entry.is) in
    let skipped : cells_left f z a.rows (c.loop-k.k + 1) ≡ cells_left f z a.rows (c.loop-k.k + c.slots_on-k.result) =
    left_skip f z a.rows c.loop-k.k c.slots_on-k.result (c.slots_on-k.ensures.at_least_one (omega arith)) (omega arith)
    (λ j some h. ap (λ y. f (y +ℤ pos j)) (sym at_is) ∙ c.slots_on-k.ensures.empty j some h) in
    record {
      left =
          ap (λ es. slice_get es 0) (sym skipped
          ∙ sym (ap (λ es. row_cells at es ++ cells_left f z a.rows (c.loop-k.k + 1)) none)
          ∙ sym (left_step f z a.rows c.loop-k.k c.loop-k-test.true))
          ∙ c.loop-k.invariant.left;
      within = omega arith;
    }

pub returns : goal.returns
returns c =
    let a = c.args.self.now in
    let f = row_at a.blocks in
    let z = to_z w64 (of_z w64 c.first_live-first.result) in
    let past : c.loop-k.k ≡ a.rows = omega arith in
    sym (ap (option_map cell_of) (sym c.loop-k.invariant.left
    ∙ ap (λ es. slice_get es 0) (ap (cells_left f z a.rows) past ∙ left_none f z a.rows)))
