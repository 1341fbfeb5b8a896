use Rattle.std.proofs.Common.{rules}
use Rattle.rr_packed.proofs.held_block.changed_copy.Goals as goal

pub returns : goal.returns
returns c = search rules
