use Rattle.std.proofs.Common.{rules, ◌≡◌, ◌+◌, ◌<◌, ℕ, ℤ, pos, ◌+ℤ◌, ◌-ℤ◌, ◌≤ℤ◌, false, sym, ap, ◌∙◌, Some, None, arith, to_z, of_z, w64}
use Rattle.std.specs.Prelude.{int_lt}
use Rattle.std.specs.List.{find}
use Rattle.std.specs.Option.{option_map}
use Rattle.std.specs.FinMap.{entries}
use Rattle.std.proofs.lemmas.Int.{ints}
use Rattle.rr_archive.specs.declared.entry.Entry.{Entry}
use Rattle.rr_archive.specs.CellSlots.{cell_slot}
use Rattle.rr_archive.specs.Row.{is_after}
use Rattle.rr_archive.specs.Cells.{cell_of}
use Rattle.rr_packed.specs.Blocks.{row_at}
use Rattle.rr_archive.specs.LiveRows.{cells_by}
use Rattle.rr_archive.proofs.RowCells.{is_past}
use Rattle.rr_archive.proofs.LiveWalks.{cells_left, left_step, left_none, left_skip, entries_live, entries_none, find_skip, past_found, past_none}
use Rattle.rr_packed.proofs.packed_archive.PackedArchiveCells.next_cell.Goals as goal

pub returns-in_default : goal.returns-in_default
returns-in_default c =
    let a = c.args.self.now in
    sym (ap (λ es. option_map cell_of (find (is_past (cell_slot c.args.slot c.args.origin)) es))
    (entries_none a.rows a.newest (row_at a.blocks) a.held.ascend c.in_default.is))

pub returns-then-newest-slot : goal.returns-then-newest-slot
returns-then-newest-slot c =
    let a = c.args.self.now in
    let f = row_at a.blocks in
    let p = cell_slot c.args.slot c.args.origin in
    let z = to_z w64 (of_z w64 c.first_live-first.result) in
    let first : z ≡ ((c.in-Some.newest -ℤ pos a.rows) +ℤ pos 1) = search rules in
    let past : (z +ℤ pos a.rows) ≤ℤ c.args.slot = omega (arith, ints) in
    sym (ap (option_map cell_of) (
    ap (find (is_past p)) (sym (entries_live a.rows a.newest f a.held.ascend c.in-Some.newest z c.in-Some.is first))
    ∙ sym (find_skip f z a.rows p a.rows (omega arith) (λ _. past))
    ∙ ap (find (is_past p)) (left_none f z a.rows)))

pub loop-k-init : goal.loop-k-init
loop-k-init c =
    let a = c.args.self.now in
    let f = row_at a.blocks in
    let z = to_z w64 (of_z w64 c.first_live-first.result) in
    let p = cell_slot (to_z w64 (of_z w64 c.args.slot)) c.args.origin in
    let first : z ≡ ((c.in-Some.newest -ℤ pos a.rows) +ℤ pos 1) = search rules in
    record {
      first =
          ap (option_map cell_of) (find_skip f z a.rows p c.rows_before-k.result c.rows_before-k.ensures.at_most
          c.rows_before-k.ensures.before
          ∙ ap (find (is_past p)) (entries_live a.rows a.newest f a.held.ascend c.in-Some.newest z c.in-Some.is first));
      from = c.rows_before-k.ensures.from;
      within = c.rows_before-k.ensures.at_most;
    }

not_before : (z slot : ℤ) (k : ℕ) → slot ≤ℤ (z +ℤ pos k) → int_lt (z +ℤ pos k) slot ≡ false
not_before z slot k h = grind (arith, ints)

further : (z slot : ℤ) (k d : ℕ) → slot ≤ℤ (z +ℤ pos k) → slot ≤ℤ (z +ℤ pos (k + d))
further z slot k d h = omega (arith, ints)

pub returns-in-Some-first_after : goal.returns-in-Some-first_after
returns-in-Some-first_after c =
    let a = c.args.self.now in
    let f = row_at a.blocks in
    let z = to_z w64 (of_z w64 c.first_live-first.result) in
    let slot = to_z w64 (of_z w64 c.args.slot) in
    let back : slot ≡ c.args.slot = search rules in
    let p = cell_slot slot c.args.origin in
    let at = z +ℤ pos c.loop-k.k in
    let at_is : to_z w64 (of_z w64 (z +ℤ to_z w64 (of_z w64 c.from.result))) ≡ at = search rules in
    let e : Entry = c.in-Some-first_after.entry in
    let some : find (is_after (int_lt slot at) c.args.origin) (f at) ≡ Some e =
    ap (λ y. find (is_after (int_lt slot y) c.args.origin) (f y)) (sym at_is) ∙ sym c.first_after.ensures
    ∙ c.in-Some-first_after.is in
    ap (λ y. Some (y, e)) at_is
    ∙ sym (past_found slot at c.args.origin (f at) (cells_left f z a.rows (c.loop-k.k + 1)) e
    (not_before z slot c.loop-k.k c.loop-k.invariant.from) some)
    ∙ ap (λ es. option_map cell_of (find (is_past p) es)) (sym (left_step f z a.rows c.loop-k.k c.loop-k-test.true))
    ∙ c.loop-k.invariant.first
    ∙ ap (λ s. option_map cell_of (find (is_past (cell_slot s c.args.origin)) (entries (cells_by a.rows a.newest f))))
    back

pub loop-k-preserved : goal.loop-k-preserved
loop-k-preserved c =
    let a = c.args.self.now in
    let f = row_at a.blocks in
    let z = to_z w64 (of_z w64 c.first_live-first.result) in
    let slot = to_z w64 (of_z w64 c.args.slot) in
    let at = z +ℤ pos c.loop-k.k in
    let at_is : to_z w64 (of_z w64 (z +ℤ to_z w64 (of_z w64 c.from.result))) ≡ at = search rules in
    let none : find (is_after (int_lt slot at) c.args.origin) (f at) ≡ None =
    ap (λ y. find (is_after (int_lt slot y) c.args.origin) (f y)) (sym at_is) ∙ sym c.first_after.ensures
    ∙ c.in_default-first_after.is in
    let within : c.loop-k.k < a.rows = omega arith in
    let skipped : cells_left f z a.rows (c.loop-k.k + 1) ≡ cells_left f z a.rows (c.loop-k.k + c.slots_on-k.result) =
    left_skip f z a.rows c.loop-k.k c.slots_on-k.result (c.slots_on-k.ensures.at_least_one (omega arith)) (omega arith)
    (λ j some h. ap (λ y. f (y +ℤ pos j)) (sym at_is) ∙ c.slots_on-k.ensures.empty j some h) in
    record {
      first =
          ap (λ es. option_map cell_of (find (is_past (cell_slot slot c.args.origin)) es)) (sym skipped)
          ∙ past_none slot at c.args.origin (f at) (cells_left f z a.rows (c.loop-k.k + 1))
          (not_before z slot c.loop-k.k c.loop-k.invariant.from) none
          ∙ ap (λ es. option_map cell_of (find (is_past (cell_slot slot c.args.origin)) es))
          (sym (left_step f z a.rows c.loop-k.k within))
          ∙ c.loop-k.invariant.first;
      from = further z slot c.loop-k.k c.slots_on-k.result c.loop-k.invariant.from;
      within = omega arith;
    }

pub returns : goal.returns
returns c =
    let a = c.args.self.now in
    let f = row_at a.blocks in
    let z = to_z w64 (of_z w64 c.first_live-first.result) in
    let slot = to_z w64 (of_z w64 c.args.slot) in
    let back : slot ≡ c.args.slot = search rules in
    let past : c.loop-k.k ≡ a.rows = omega arith in
    let none = sym c.loop-k.invariant.first ∙ ap (λ es. option_map cell_of
    (find (is_past (cell_slot slot c.args.origin)) es)) (ap (cells_left f z a.rows) past ∙ left_none f z a.rows) in
    sym (ap (λ s. option_map cell_of (find (is_past (cell_slot s c.args.origin))
    (entries (cells_by a.rows a.newest f)))) (sym back) ∙ none)
