use Rattle.std.proofs.Common.{rules, ◌≡◌, ◌+◌, Some, length, slice_get, ap, sym, ◌∙◌}
use Rattle.std.proofs.lemmas.Bool.{ltb-true}
use Rattle.std.proofs.lemmas.Option.{slice_get-get_or}
use Rattle.rr_replica.proofs.cell_run.CellRun.behind.Goals as goal

pub returns-clause-next : goal.returns-clause-next
returns-clause-next c =
    let run = c.args.self.now.cells.items in
    let at = c.args.self.now.at in
    let here = c.in_ok-here.here.now in
    let next = c.in_ok-next.field-0.now in
    let look = rw c.deref.ensures.value at c.in_ok-here.ensures.lookup in
    let look_on = rw c.deref-2.ensures.value at c.in_ok-next.ensures.lookup in
    let given : slice_get run at ≡ Some here = slice_get-get_or run at here (ltb-true at (length run) (sym look.0))
    ∙ ap (λ x. Some x) (sym look.1) in
    let behind : slice_get run (at + 1) ≡ Some next = slice_get-get_or run (at + 1) next
    (ltb-true (at + 1) (length run) (sym look_on.0)) ∙ ap (λ x. Some x) (sym look_on.1) in
    let slot : here.0 ≡ c.args.slot = search rules in
    let origin : here.1.origin ≡ c.args.origin = search rules in
    λ own in_turn. rw (slot, origin) at (in_turn at here next given behind)
