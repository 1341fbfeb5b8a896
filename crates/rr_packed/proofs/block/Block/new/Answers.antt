use Rattle.rr_packed.proofs.BlockLemmas.{items_none}
use Rattle.rr_packed.proofs.block.Block.new.Goals as goal

pub returns : goal.returns
returns c = λ number. items_none _ number (c.new-2.ensures number) (c.new.ensures number)
