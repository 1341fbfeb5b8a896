use Rattle.rr_ring.specs.Ring.{ring_row}
use Rattle.rr_archive.proofs.LiveChanges.{cells_none, held_none}
use Rattle.rr_ring.proofs.ring_archive.RingArchiveCells.new.Goals as goal

pub invariant_of-result : goal.invariant_of-result
invariant_of-result c = record { held = held_none c.new.result.rows (ring_row c.new.result) c.new.ensures.empty }

pub returns-clause-empty : goal.returns-clause-empty
returns-clause-empty c = cells_none c.new.result.rows (ring_row c.new.result) c.new.ensures.empty
