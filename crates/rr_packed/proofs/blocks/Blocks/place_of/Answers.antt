use Rattle.std.proofs.Common.{rules, ◌≡◌, sym, to_z, of_z, w64}
use Rattle.rr_packed.specs.Slots.{block_of}
use Rattle.rr_packed.specs.Blocks.{all_blocks, IsBlockSet, IsGapFor}
use Rattle.rr_packed.proofs.BlocksLemmas.{blocks_added}
use Rattle.rr_packed.proofs.blocks.Blocks.place_of.Goals as goal

pub returns-in_ok-insert-in-Err-clause-same : goal.returns-in_ok-insert-in-Err-clause-same
returns-in_ok-insert-in-Err-clause-same c =
    let old = all_blocks c.args.self.now in
    let number : to_z w64 (of_z w64 c.block_of-number.result) ≡ block_of c.args.slot = search rules in
    let gap : IsGapFor (block_of c.args.slot) old c.in-Err.at = rw number at c.in-Err.ensures.missing in
    let sets : IsBlockSet (block_of c.args.slot) c.in_ok-block-in-Err.block old (all_blocks c.insert.new.self) =
    rw number at c.in_ok-insert-in-Err.ensures.added in
    blocks_added old (all_blocks c.insert.new.self) (block_of c.args.slot) c.in_ok-block-in-Err.block sets (sym gap.0) c.in_ok-block-in-Err.ensures
