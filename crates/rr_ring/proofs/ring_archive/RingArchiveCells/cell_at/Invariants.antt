use Rattle.std.proofs.Common.{◌≡◌, ◌-◌, ◌≤◌}
use Rattle.std.specs.List.{slice_get}
use Rattle.std.specs.FinMap.{entries}
use Rattle.rr_ring.specs.Ring.{ring_row}
use Rattle.rr_archive.specs.LiveRows.{cells_by}
use Rattle.rr_archive.proofs.LiveWalks.{cells_left}
use Rattle.rr_ring.proofs.ring_archive.RingArchiveCells.cell_at.Given as goal

abbrev pub invariant-loop-k : goal.invariant-loop-k
invariant-loop-k l = record {
  left : slice_get (cells_left (ring_row l.self.ring) l.first l.self.ring.rows l.k) l.left
      ≡ slice_get (entries (cells_by l.self.ring.rows l.self.newest (ring_row l.self.ring))) l.fn.i;
  within : l.k ≤ l.self.ring.rows;
}

abbrev pub decreases-loop-k : goal.decreases-loop-k
decreases-loop-k l = l.self.ring.rows - l.k
