use Rattle.std.proofs.Common.{refl, ap}
use Rattle.rr_packed.proofs.BlockLemmas.{block_same}
use Rattle.rr_packed.proofs.block.Block.shrink.Goals as goal

pub returns : goal.returns
returns c =
    block_same c.args.self.now _ (λ n. ap (λ f. f n) c.shrink-2.ensures) refl (λ n. ap (λ f. f n) c.shrink.ensures)
