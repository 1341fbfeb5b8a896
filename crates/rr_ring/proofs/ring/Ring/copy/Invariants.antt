use Rattle.std.proofs.Common.{◌≡◌, map, take}
use Rattle.rr_ring.proofs.RingLemmas.{stored_rows}
use Rattle.rr_ring.proofs.ring.Ring.copy.Given as goal

abbrev pub invariant-loop-block : goal.invariant-loop-block
invariant-loop-block l = map stored_rows l.blocks.items ≡ map stored_rows (take l.block-index l.self.blocks.items)
