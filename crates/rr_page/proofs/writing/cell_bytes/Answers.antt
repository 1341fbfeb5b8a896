use Rattle.std.proofs.Common.{rules, ◌≡◌, ◌∙◌, length, ap}
use Rattle.rr_cells.specs.CellBounds.{NamedCell}
use Rattle.rr_page.specs.CellText.{cell_text}
use Rattle.rr_page.specs.Version.{latest}
use Rattle.rr_page.proofs.LengthLemmas.{cell_len}
use Rattle.rr_page.proofs.writing.cell_bytes.Goals as goal

pub returns-clause-len : goal.returns-clause-len
returns-clause-len c =
    let cell = c.args.cell in
    let e : NamedCell = (
      record { key = cell.key.now; archive = cell.archive; slot = cell.slot; origin = cell.origin },
      cell.contribution,
    ) in
    let text : c.push_cell.new.bytes.items ≡ cell_text latest e = search rules in
    ap length text ∙ cell_len latest e
