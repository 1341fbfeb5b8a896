use Rattle.std.proofs.Common.{rules}
use Rattle.rr_packed.proofs.held_block.HeldBlock.change.Goals as goal

pub returns : goal.returns
returns c = search rules
