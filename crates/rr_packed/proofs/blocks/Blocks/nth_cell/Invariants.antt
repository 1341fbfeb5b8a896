use Rattle.std.proofs.Common.{◌≡◌}
use Rattle.std.specs.List.{slice_get}
use Rattle.rr_archive.specs.LiveRows.{cells_from}
use Rattle.rr_archive.proofs.LiveWalks.{cells_left}
use Rattle.rr_packed.specs.Blocks.{row_at}
use Rattle.rr_packed.proofs.blocks.Blocks.nth_cell.Given as goal

abbrev pub invariant-loop-k : goal.invariant-loop-k
invariant-loop-k l = slice_get (cells_left (row_at l.fn.self) l.fn.slot l.fn.slots l.k) l.left
    ≡ slice_get (cells_from (row_at l.fn.self) l.fn.slot l.fn.slots) l.fn.i
