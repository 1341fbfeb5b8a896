use Rattle.std.proofs.Common.{◌≡◌, map, take}
use Rattle.rr_ring.specs.StoredRows.{slot_and_entries}
use Rattle.rr_ring.proofs.block.Block.copy.Given as goal

abbrev pub invariant-loop-row : goal.invariant-loop-row
invariant-loop-row l = map slot_and_entries l.rows.items ≡ map slot_and_entries (take l.row-index l.self.rows.items)
