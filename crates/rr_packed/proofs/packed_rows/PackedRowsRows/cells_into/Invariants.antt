use Rattle.std.proofs.Common.{◌≡◌, ◌≤◌, ◌++◌, length, vec_capacity}
use Rattle.rr_packed.specs.PackedRows.{cells_packed, left_of}
use Rattle.rr_packed.proofs.RowMoves.{moved_to}
use Rattle.rr_packed.proofs.packed_rows.PackedRowsRows.cells_into.Given as goal

-- the cells that were added, and those that are left; the list has no less room
abbrev pub invariant-loop-cell : goal.invariant-loop-cell
invariant-loop-cell l = record {
  added :
      l.run.items ++ moved_to l.first.value l.slot (left_of l.cells.decoder.cells)
      ≡ l.initial.run.items ++ moved_to l.first.value l.slot (cells_packed l.self.bytes.items);
  capacity : vec_capacity l.initial.run ≤ vec_capacity l.run;
}

abbrev pub decreases-loop-cell : goal.decreases-loop-cell
decreases-loop-cell l = length (left_of l.cells.decoder.cells)
