use Rattle.std.proofs.Common.{◌≡◌, ◌+◌, length}
use Rattle.std.specs.FinMap.{len}
use Rattle.rr_ring.specs.Ring.{ring_row}
use Rattle.rr_archive.specs.LiveRows.{cells_by}
use Rattle.rr_archive.proofs.LiveWalks.{cells_left}
use Rattle.rr_ring.proofs.ring_archive.RingArchive.dead_cells.Given as goal

abbrev pub invariant-loop-k : goal.invariant-loop-k
invariant-loop-k l = l.dead + length (cells_left (ring_row l.self.ring) l.first l.self.ring.rows l.k)
    ≡ len (cells_by l.self.ring.rows l.self.newest (ring_row l.self.ring))
