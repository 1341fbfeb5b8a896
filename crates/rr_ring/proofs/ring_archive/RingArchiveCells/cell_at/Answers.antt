use Rattle.std.proofs.Common.{rules, ◌≡◌, ◌+◌, ◌-◌, ◌<◌, ◌≤◌, pos, ◌+ℤ◌, ◌-ℤ◌, length, get_or, subst, sym, ap, ◌∙◌, Some, arith, to_z, of_z, w64}
use Rattle.std.specs.List.{slice_get}
use Rattle.std.specs.Option.{option_map}
use Rattle.rr_archive.specs.declared.entry.Entry.{Entry}
use Rattle.rr_archive.specs.Cells.{cell_of}
use Rattle.rr_ring.specs.Ring.{ring_row}
use Rattle.rr_archive.proofs.RowCells.{cell_here, cell_later}
use Rattle.rr_archive.proofs.LiveWalks.{cells_left, left_step, left_none, left_skip, entries_live, entries_none}
use Rattle.rr_ring.proofs.ring_archive.RingArchiveCells.cell_at.Goals as goal

pub returns-in_default : goal.returns-in_default
returns-in_default c =
    let a = c.args.self.now in
    sym (ap (λ es. option_map cell_of (slice_get es c.args.i))
    (entries_none a.ring.rows a.newest (ring_row a.ring) a.held.ascend c.in_default.is))

pub loop-k-init : goal.loop-k-init
loop-k-init c =
    let a = c.args.self.now in
    let z = to_z w64 (of_z w64 c.first_live-first.result) in
    let first : z ≡ ((c.in-Some.newest -ℤ pos a.ring.rows) +ℤ pos 1) = search rules in
    record {
      left = ap (λ es. slice_get es c.args.i)
          (entries_live a.ring.rows a.newest (ring_row a.ring) a.held.ascend c.in-Some.newest z c.in-Some.is first);
      within = omega arith;
    }

pub returns-then-left-row : goal.returns-then-left-row
returns-then-left-row c =
    let a = c.args.self.now in
    let f = ring_row a.ring in
    let z = to_z w64 (of_z w64 c.first_live-first.result) in
    let d : Entry = c.index-row-left.result in
    let slot : to_z w64 (of_z w64 (z +ℤ to_z w64 (of_z w64 c.from.result))) ≡ z +ℤ pos c.loop-k.k = search rules in
    let at = z +ℤ pos c.loop-k.k in
    let row : c.row-row.result.now ≡ f at = search rules in
    let within : c.loop-k.left < length (f at) = subst (λ es. c.loop-k.left < length es) row c.if-left-row.true in
    ap (λ s. Some (s, d)) slot
    ∙ ap (λ (e : Entry). Some (at, e)) (c.index-row-left.is ∙ ap (λ es. get_or es c.loop-k.left d) row)
    ∙ sym (cell_here at (f at) (cells_left f z a.ring.rows (c.loop-k.k + 1)) c.loop-k.left d within)
    ∙ ap (λ es. option_map cell_of (slice_get es c.loop-k.left))
    (sym (left_step f z a.ring.rows c.loop-k.k c.loop-k-test.true))
    ∙ ap (option_map cell_of) c.loop-k.invariant.left

pub loop-k-preserved : goal.loop-k-preserved
loop-k-preserved c =
    let a = c.args.self.now in
    let f = ring_row a.ring in
    let z = to_z w64 (of_z w64 c.first_live-first.result) in
    let row : c.row-row.result.now ≡ f (z +ℤ pos c.loop-k.k) = search rules in
    let at = z +ℤ pos c.loop-k.k in
    let at_is : to_z w64 (of_z w64 (z +ℤ to_z w64 (of_z w64 c.from.result))) ≡ at = search rules in
    let rest = cells_left f z a.ring.rows (c.loop-k.k + 1) in
    let past : length (f at) ≤ c.loop-k.left = subst (λ es. length es ≤ c.loop-k.left) row c.if-left-row.false in
    let within : c.loop-k.k < a.ring.rows = omega arith in
    let skipped : rest ≡ cells_left f z a.ring.rows (c.loop-k.k + c.slots_on-k.result) =
    left_skip f z a.ring.rows c.loop-k.k c.slots_on-k.result (c.slots_on-k.ensures.at_least_one (omega arith)) (omega
    arith)
    (λ j some h. ap (λ y. f (y +ℤ pos j)) (sym at_is) ∙ c.slots_on-k.ensures.empty j some h) in
    record {
      left =
          ap (λ es. slice_get es (c.loop-k.left - length c.row-row.result.now)) (sym skipped)
          ∙ ap (λ es. slice_get rest (c.loop-k.left - length es)) row
          ∙ sym (cell_later at (f at) rest c.loop-k.left past)
          ∙ ap (λ es. slice_get es c.loop-k.left) (sym (left_step f z a.ring.rows c.loop-k.k within))
          ∙ c.loop-k.invariant.left;
      within = omega arith;
    }

pub returns : goal.returns
returns c =
    let a = c.args.self.now in
    let f = ring_row a.ring in
    let z = to_z w64 (of_z w64 c.first_live-first.result) in
    let past : c.loop-k.k ≡ a.ring.rows = omega arith in
    sym (ap (option_map cell_of) (sym c.loop-k.invariant.left
    ∙ ap (λ es. slice_get es c.loop-k.left) (ap (cells_left f z a.ring.rows) past ∙ left_none f z a.ring.rows)))
