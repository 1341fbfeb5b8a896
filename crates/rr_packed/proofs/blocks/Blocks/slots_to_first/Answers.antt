use Rattle.std.proofs.Common.{rules, ◌≡◌, ◌<◌, ℤ, pos, ◌+ℤ◌, ◌*ℤ◌, true, length, get_or}
use Rattle.std.specs.Prelude.{int_lt}
use Rattle.rr_packed.specs.declared.held_block.HeldBlock.{HeldBlock}
use Rattle.rr_packed.specs.Blocks.{all_blocks}
use Rattle.rr_packed.proofs.BlocksLemmas.{empty_before}
use Rattle.rr_packed.proofs.blocks.Blocks.slots_to_first.Goals as goal

pub returns : goal.returns
returns c = λ i h.
    let bs = all_blocks c.args.self.now in
    let first : ℤ × HeldBlock = c.in-Some.field-0.now in
    let some : 0 < length bs = search rules in
    let is : first ≡ get_or bs 0 first = search rules in
    let before : int_lt (c.args.slot +ℤ pos i) (first.0 *ℤ pos 64) ≡ true = search rules in
    empty_before bs (c.args.slot +ℤ pos i) first c.args.self.now.ordered some is before
