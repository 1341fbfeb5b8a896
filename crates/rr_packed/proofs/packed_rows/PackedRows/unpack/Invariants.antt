use Rattle.std.proofs.Common.{◌≡◌, ℕ, pos, ◌++◌, length}
use Rattle.rr_packed.specs.BlockRows.{items_in}
use Rattle.rr_packed.specs.PackedRows.{entries_at, items_packed, left_of}
use Rattle.rr_packed.proofs.packed_rows.PackedRows.unpack.Given as goal

-- a row has the entries that were read, and then those that are left
abbrev pub invariant-loop-cell : goal.invariant-loop-cell
invariant-loop-cell l =
    (k : ℕ) → items_in l.block k ++ entries_at (left_of l.cells.decoder.cells) (pos k)
    ≡ items_packed l.self.bytes.items k

abbrev pub decreases-loop-cell : goal.decreases-loop-cell
decreases-loop-cell l = length (left_of l.cells.decoder.cells)
