use Rattle.std.proofs.Common.{◌≡◌, ◌+◌, length}
use Rattle.rr_packed.specs.PackedRows.{cells_packed, left_of}
use Rattle.rr_packed.proofs.RowCounts.{count_on}
use Rattle.rr_packed.proofs.packed_rows.PackedRowsRows.entries_on.Given as goal

-- those that were counted, and those that are left
abbrev pub invariant-loop-cell : goal.invariant-loop-cell
invariant-loop-cell l =
    l.count + count_on l.rows.first.value l.rows.count (left_of l.cells.decoder.cells)
    ≡ count_on l.rows.first.value l.rows.count (cells_packed l.self.bytes.items)

abbrev pub decreases-loop-cell : goal.decreases-loop-cell
decreases-loop-cell l = length (left_of l.cells.decoder.cells)
