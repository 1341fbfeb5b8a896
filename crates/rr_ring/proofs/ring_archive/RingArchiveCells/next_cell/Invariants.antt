use Rattle.std.proofs.Common.{◌≡◌, ◌-◌, ◌≤◌, ◌+ℤ◌, ◌≤ℤ◌, pos}
use Rattle.std.specs.List.{find}
use Rattle.std.specs.Option.{option_map}
use Rattle.std.specs.FinMap.{entries}
use Rattle.rr_archive.specs.CellSlots.{cell_slot}
use Rattle.rr_archive.specs.Cells.{cell_of}
use Rattle.rr_ring.specs.Ring.{ring_row}
use Rattle.rr_archive.specs.LiveRows.{cells_by}
use Rattle.rr_archive.proofs.RowCells.{is_past}
use Rattle.rr_archive.proofs.LiveWalks.{cells_left}
use Rattle.rr_ring.proofs.ring_archive.RingArchiveCells.next_cell.Given as goal

abbrev pub invariant-loop-k : goal.invariant-loop-k
invariant-loop-k l = record {
  first : option_map cell_of (find (is_past (cell_slot l.fn.slot l.fn.origin))
      (cells_left (ring_row l.self.ring) l.first l.self.ring.rows l.k))
      ≡ option_map cell_of (find (is_past (cell_slot l.fn.slot l.fn.origin))
      (entries (cells_by l.self.ring.rows l.self.newest (ring_row l.self.ring))));
  from : l.fn.slot ≤ℤ (l.first +ℤ pos l.k);
  within : l.k ≤ l.self.ring.rows;
}

abbrev pub decreases-loop-k : goal.decreases-loop-k
decreases-loop-k l = l.self.ring.rows - l.k
