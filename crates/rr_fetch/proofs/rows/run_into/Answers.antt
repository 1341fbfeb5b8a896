use Rattle.std.proofs.Common.{Bor, ◌≡◌, None, sym, ap, ◌∙◌}
use Rattle.rr_archive.specs.Cells.{cells_on}
use Rattle.rr_fetch.specs.LentRows.{lent_cells}
use Rattle.rr_fetch.proofs.LentRowsLemmas.{none_lent}
use Rattle.rr_fetch.proofs.rows.run_into.Goals as goal

pub returns-in_default-clause-written : goal.returns-in_default-clause-written
returns-in_default-clause-written g c =
    c.clear.ensures.items ∙ sym (ap (λ o. cells_on (lent_cells {X = Bor g.row.A.Denot} (λ a. g.A.Cells.cells a.now) o) c.args.slot 1) c.in_default.is
    ∙ none_lent {X = Bor g.row.A.Denot} (λ a. g.A.Cells.cells a.now) c.args.slot)
