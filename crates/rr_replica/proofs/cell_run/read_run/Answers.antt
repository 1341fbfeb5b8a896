use Rattle.std.proofs.Common.{rules, ◌≡◌, ◌+◌, ap, sym, ◌∙◌, slice_get, to_z, of_z, w64}
use Rattle.rr_archive.specs.Cells.{cells_on}
use Rattle.rr_archive.proofs.CellRuns.{run_in_turn}
use Rattle.rr_replica.proofs.cell_run.read_run.Goals as goal

pub returns-in-Ok : goal.returns-in-Ok
returns-in-Ok g c =
    let cells = g.A.Cells.cells c.args.archive.now in
    let run = c.cells_into.new.run.items in
    let back : to_z w64 (of_z w64 c.args.slot) ≡ c.args.slot = search rules in
    let written : run ≡ cells_on cells c.args.slot c.in-Ok._slots = rw back at c.in-Ok.ensures.written in
    λ i cell next at behind.
    run_in_turn cells c.args.slot c.in-Ok._slots i cell next (ap (λ l. slice_get l i) (sym written) ∙ at)
    (ap (λ l. slice_get l (i + 1)) (sym written) ∙ behind)
