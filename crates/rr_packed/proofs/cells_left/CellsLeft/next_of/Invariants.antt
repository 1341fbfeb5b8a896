use Rattle.std.proofs.Common.{◌≡◌, pos, length}
use Rattle.rr_packed.specs.PackedRows.{entries_at, left_of}
use Rattle.rr_packed.proofs.cells_left.CellsLeft.next_of.Given as goal

-- the cells that were passed over have no entry of the row
abbrev pub invariant-loop-cell : goal.invariant-loop-cell
invariant-loop-cell l =
    entries_at (left_of l.self.decoder.cells) (pos l.number.value)
    ≡ entries_at (left_of l.initial.self.decoder.cells) (pos l.number.value)

abbrev pub decreases-loop-cell : goal.decreases-loop-cell
decreases-loop-cell l = length (left_of l.self.decoder.cells)
