use Rattle.std.proofs.Common.{◌≡◌, ◌+◌, ◌-◌, length}
use Rattle.rr_ring.specs.Blocks.{items_by_position}
use Rattle.rr_ring.proofs.ring.Ring.add_blocks.Given as goal

abbrev pub invariant-loop-self : goal.invariant-loop-self
invariant-loop-self l = (items_by_position l.self.blocks.items ≡ items_by_position l.fn.self.blocks.items)
    × (l.self.rows ≡ l.fn.self.rows)

abbrev pub decreases-loop-self : goal.decreases-loop-self
decreases-loop-self l = (l.number + 1) - length l.self.blocks.items
