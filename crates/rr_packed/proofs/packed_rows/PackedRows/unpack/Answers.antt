use Rattle.std.proofs.Common.{◌∙◌}
use Rattle.rr_packed.specs.BlockRows.{items_in}
use Rattle.rr_packed.specs.PackedRows.{left_of}
use Rattle.rr_packed.proofs.RowAppends.{row_appended}
use Rattle.rr_packed.proofs.packed_rows.PackedRows.unpack.Goals as goal

pub loop-cell-preserved : goal.loop-cell-preserved
loop-cell-preserved c = λ k.
    row_appended (items_in c.loop-cell.block) (items_in c.append.new.self) c.in-Some.cell.number.value
    c.in-Some.cell.entry (left_of c.loop-cell.cells.decoder.cells) (left_of c.next.new.self.decoder.cells)
    c.in_ok-append.ensures c.in-Some.ensures k
    ∙ c.loop-cell.invariant k
