use Rattle.std.proofs.Common.{◌≡◌, ◌+◌, ◌-◌, length}
use Rattle.rr_ring.specs.Blocks.{block_items}
use Rattle.rr_ring.proofs.block.Block.make_rows.Given as goal

abbrev pub invariant-loop-self : goal.invariant-loop-self
invariant-loop-self l = block_items l.self ≡ block_items l.fn.self

abbrev pub decreases-loop-self : goal.decreases-loop-self
decreases-loop-self l = (l.number + 1) - length l.self.rows.items
