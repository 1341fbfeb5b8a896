use Rattle.std.proofs.Common.{◌≡◌, ◌+◌, ◌≤◌, pos, ◌++◌, length, vec_capacity}
use Rattle.rr_packed.specs.PackedRows.{entries_at, items_packed, left_of}
use Rattle.rr_packed.proofs.packed_rows.PackedRowsRows.row_into.Given as goal

-- the entries that were added, and those that are left; there is room for these, if there was for all
abbrev pub invariant-loop-entry : goal.invariant-loop-entry
invariant-loop-entry l = record {
  added :
      l.row.items ++ entries_at (left_of l.cells.decoder.cells) (pos l.number.value)
      ≡ l.initial.row.items ++ items_packed l.self.bytes.items l.number.value;
  room :
      length l.initial.row.items + length (items_packed l.self.bytes.items l.number.value) ≤ vec_capacity l.initial.row
      → length l.row.items + length (entries_at (left_of l.cells.decoder.cells) (pos l.number.value))
      ≤ vec_capacity l.row;
}

abbrev pub decreases-loop-entry : goal.decreases-loop-entry
decreases-loop-entry l = length (entries_at (left_of l.cells.decoder.cells) (pos l.number.value))
