use Rattle.std.proofs.Common.{rules, ◌≡◌, ◌++◌, ◌∙◌, ◌+ℤ◌, ◌<ℤ◌, ◌≤ℤ◌, pos, ℤ, ap, sym, subst, arith, to_z, of_z, w64}
use Rattle.std.specs.Prelude.{Ok, Some}
use Rattle.std.proofs.lemmas.Int.{ints}
use Rattle.rr_changes.specs.Listing.{PushesRun, cells_between}
use Rattle.rr_changes.proofs.SlotLemmas.{all_runs, run_more}
use Rattle.rr_changes.proofs.listing.ArchiveChanges.push_runs.Goals as goal

pub loop-first-preserved : goal.loop-first-preserved
loop-first-preserved g c =
    let m = g.A.Cells.cells c.args.archive.now in
    let first = to_z w64 c.loop-first.first-bits in
    let last = c.args.slots.now.last in
    let next = c.in-Some.next in
    let same : to_z w64 (of_z w64 next) ≡ next = search rules in
    let end : to_z w64 (of_z w64 last) ≡ last = search rules in
    let in_range : first ≤ℤ last = search rules in
    let pushes : PushesRun m first last c.loop-first.self c.push_run.new.self (Ok (Some next)) =
    subst (λ (z : ℤ). PushesRun m first z c.loop-first.self c.push_run.new.self (Ok (Some next))) end
    (subst (PushesRun m first (to_z w64 (of_z w64 last)) c.loop-first.self c.push_run.new.self)
    (c.in_ok-next.was ∙ ap Ok c.in-Some.is) c.push_run.ensures) in
    let on = pushes.0 in
    let from = c.loop-first.invariant.from in
    let start : c.args.slots.now.first ≤ℤ next = omega (arith, ints, on, from) in
    record {
      cells = ap (λ (z : ℤ). c.push_run.new.self ++ cells_between m z (last +ℤ pos 1)) same
          ∙ run_more m first next last c.loop-first.self c.push_run.new.self in_range on pushes.1
          ∙ c.loop-first.invariant.cells;
      from = subst (λ (z : ℤ). c.args.slots.now.first ≤ℤ z) (sym same) start;
    }

pub returns : goal.returns
returns g c =
    let m = g.A.Cells.cells c.args.archive.now in
    let past : c.args.slots.now.last <ℤ to_z w64 c.loop-first.first-bits = search rules in
    all_runs m (to_z w64 c.loop-first.first-bits) c.args.slots.now.last c.args.self.now c.loop-first.self
    (cells_between m c.args.slots.now.first (c.args.slots.now.last +ℤ pos 1)) past c.loop-first.invariant.cells
