use Rattle.std.proofs.Common.{◌≡◌, ◌-◌, ◌≤◌}
use Rattle.std.specs.List.{slice_get}
use Rattle.std.specs.FinMap.{entries}
use Rattle.rr_packed.specs.Blocks.{row_at}
use Rattle.rr_archive.specs.LiveRows.{cells_by}
use Rattle.rr_archive.proofs.LiveWalks.{cells_left}
use Rattle.rr_packed.proofs.packed_archive.PackedArchive.first_cell.Given as goal

abbrev pub invariant-loop-k : goal.invariant-loop-k
invariant-loop-k l = record {
  left : slice_get (cells_left (row_at l.self.blocks) l.first l.self.rows l.k) 0
      ≡ slice_get (entries (cells_by l.self.rows l.self.newest (row_at l.self.blocks))) 0;
  within : l.k ≤ l.self.rows;
}

abbrev pub decreases-loop-k : goal.decreases-loop-k
decreases-loop-k l = l.self.rows - l.k
