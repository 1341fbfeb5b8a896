use Rattle.std.proofs.Common.{length}
use Rattle.rr_packed.specs.Blocks.{all_blocks, row_at}
use Rattle.rr_packed.proofs.BlocksLemmas.{IsLeft}
use Rattle.rr_packed.proofs.blocks.Blocks.drop_before.Given as goal

abbrev pub invariant-loop-self : goal.invariant-loop-self
invariant-loop-self l = IsLeft l.fn.slot (row_at l.initial.self) (row_at l.self)

abbrev pub decreases-loop-self : goal.decreases-loop-self
decreases-loop-self l = length (all_blocks l.self)
