use Rattle.std.proofs.Common.{rules, ◌≡◌, ℤ, get_or, sym, to_z, of_z, w64}
use Rattle.rr_packed.specs.declared.held_block.HeldBlock.{HeldBlock}
use Rattle.rr_packed.specs.Blocks.{all_blocks, IsPlaceOf}
use Rattle.rr_packed.proofs.NumberLemmas.{block_there}
use Rattle.rr_packed.proofs.blocks.Blocks.get.Goals as goal

pub returns-in_ok-block-in-Ok : goal.returns-in_ok-block-in-Ok
returns-in_ok-block-in-Ok c =
    let bs = all_blocks c.args.self.now in
    let number : to_z w64 (of_z w64 c.args.number) ≡ c.args.number = search rules in
    let place : IsPlaceOf c.args.number bs c.in-Ok.at = rw number at c.in-Ok.ensures.found in
    let there : ℤ × HeldBlock = c.in_ok-block-in-Ok.field-0.now in
    let is : there ≡ get_or bs c.in-Ok.at there = search rules in
    record { value = sym (block_there bs c.args.number c.in-Ok.at there c.args.self.now.ordered place is) }
