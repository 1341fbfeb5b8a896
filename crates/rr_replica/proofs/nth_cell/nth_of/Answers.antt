use Rattle.std.proofs.Common.{sym, ap, arith}
use Rattle.std.specs.Option.{option_map}
use Rattle.std.specs.FinMap as fin
use Rattle.std.proofs.lemmas.Option.{slice_get_past}
use Rattle.rr_archive.specs.Cells.{cell_of}
use Rattle.rr_replica.proofs.nth_cell.nth_of.Goals as goal

pub returns-then-cell_count-number : goal.returns-then-cell_count-number
returns-then-cell_count-number g c =
    let cells = g.A.Cells.cells c.args.archive.now in
    let count = fin.len-entries cells in
    ap (option_map cell_of) (sym (slice_get_past (fin.entries cells) c.args.number (omega arith)))
