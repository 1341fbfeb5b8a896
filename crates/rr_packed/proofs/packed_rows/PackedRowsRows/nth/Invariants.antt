use Rattle.std.proofs.Common.{◌≡◌, pos, length}
use Rattle.std.specs.Prelude.{slice_get}
use Rattle.rr_packed.specs.PackedRows.{entries_at, items_packed, left_of}
use Rattle.rr_packed.proofs.packed_rows.PackedRowsRows.nth.Given as goal

-- it is so far behind the first that is left
abbrev pub invariant-loop-entry : goal.invariant-loop-entry
invariant-loop-entry l =
    slice_get (entries_at (left_of l.cells.decoder.cells) (pos l.number.value)) l.before
    ≡ slice_get (items_packed l.self.bytes.items l.number.value) l.i

abbrev pub decreases-loop-entry : goal.decreases-loop-entry
decreases-loop-entry l = length (entries_at (left_of l.cells.decoder.cells) (pos l.number.value))
