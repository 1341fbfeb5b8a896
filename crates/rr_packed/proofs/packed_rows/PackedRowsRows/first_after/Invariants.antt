use Rattle.std.proofs.Common.{◌≡◌, pos, length}
use Rattle.std.specs.List.{find}
use Rattle.rr_archive.specs.Row.{is_after}
use Rattle.rr_packed.specs.PackedRows.{entries_at, items_packed, left_of}
use Rattle.rr_packed.proofs.packed_rows.PackedRowsRows.first_after.Given as goal

-- those before aren't after it
abbrev pub invariant-loop-entry : goal.invariant-loop-entry
invariant-loop-entry l =
    find (is_after l.is_later l.origin) (entries_at (left_of l.cells.decoder.cells) (pos l.number.value))
    ≡ find (is_after l.is_later l.origin) (items_packed l.self.bytes.items l.number.value)

abbrev pub decreases-loop-entry : goal.decreases-loop-entry
decreases-loop-entry l = length (entries_at (left_of l.cells.decoder.cells) (pos l.number.value))
