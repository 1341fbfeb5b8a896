use Rattle.std.proofs.Common.{◌-◌, ◌<◌, length, sym, ap, ◌∙◌, arith}
use Rattle.std.proofs.lemmas.List.{length-set}
use Rattle.std.specs.Option.{option_to_list}
use Rattle.rr_packed.specs.Slots.{begins_before}
use Rattle.rr_packed.specs.Blocks.{all_blocks, items_of_block}
use Rattle.rr_packed.proofs.NumberLemmas.{older_here}
use Rattle.rr_packed.proofs.BlocksLemmas.{blocks_alike}
use Rattle.rr_packed.proofs.blocks.Blocks.share.Goals as goal

pub invariant_of-self : goal.invariant_of-self
invariant_of-self c =
    let a = c.loop-at.self in
    let within : c.loop-at.at - 1 < length a.older.items = let most = c.loop-at.invariant.0 in omega arith in
    let put = older_here a.older.items (option_to_list a.newest) (c.loop-at.at - 1) c.index_mut.result.now
    c.share_block.new.block a.ordered within c.index_mut.ensures.value in
    record {
      ordered = put.ascend;
      none_before = ap (begins_before a.dropped) put.numbers ∙ a.none_before;
    }

pub returns-then-not-share_block : goal.returns-then-not-share_block
returns-then-not-share_block c =
    let a = c.loop-at.self in
    let was = c.index_mut.result.now in
    let within : c.loop-at.at - 1 < length a.older.items = let most = c.loop-at.invariant.0 in omega arith in
    let put = older_here a.older.items (option_to_list a.newest) (c.loop-at.at - 1) was c.share_block.new.block
    a.ordered within c.index_mut.ensures.value in
    blocks_alike (all_blocks a) _ was.0 c.share_block.new.block put.sets
    (c.share_block.ensures.same ∙ ap items_of_block (sym put.has))
    ∙ c.loop-at.invariant.1

pub loop-at-preserved : goal.loop-at-preserved
loop-at-preserved c =
    let a = c.loop-at.self in
    let was = c.index_mut.result.now in
    let most = c.loop-at.invariant.0 in
    let within : c.loop-at.at - 1 < length a.older.items = omega arith in
    let put = older_here a.older.items (option_to_list a.newest) (c.loop-at.at - 1) was c.share_block.new.block
    a.ordered within c.index_mut.ensures.value in
    let kept = length-set a.older.items (c.loop-at.at - 1) (was.0, c.share_block.new.block) in (
      omega arith,
      blocks_alike (all_blocks a) _ was.0 c.share_block.new.block put.sets
          (c.share_block.ensures.same ∙ ap items_of_block (sym put.has))
          ∙ c.loop-at.invariant.1,
    )
