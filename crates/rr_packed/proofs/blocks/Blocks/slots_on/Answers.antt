use Rattle.std.proofs.Common.{rules, ◌≡◌, ◌<◌, ◌+◌, sym, ap, ◌∙◌, Some, None, arith, to_z, of_z, w64}
use Rattle.rr_packed.specs.Slots.{block_of, row_of}
use Rattle.rr_packed.specs.Blocks.{all_blocks, items_of_block, block_at}
use Rattle.rr_packed.proofs.BlocksLemmas.{slots_after}
use Rattle.rr_packed.proofs.blocks.Blocks.slots_on.Goals as goal

pub returns-in-Some : goal.returns-in-Some
returns-in-Some c = record {
  at_least_one = search rules;
  at_most = search rules;
  empty =
      λ i some h.
      let blocks = all_blocks c.args.self.now in
      let number : to_z w64 (of_z w64 c.block_of-number.result) ≡ block_of c.args.slot = search rules in
      let row : c.row_of.result.value ≡ row_of c.args.slot = search rules in
      let has : Some c.in-Some.block.now ≡ block_at blocks (block_of c.args.slot) =
      rw number at c.in-Some.ensures.value in
      let most = c.rows_on.ensures.at_most in
      let near : row_of c.args.slot + i < 64 = omega (arith, row, most, h) in
      slots_after blocks c.args.slot i near
      ∙ (λ j. items_of_block (sym has j) (sym row j + i))
      ∙ c.rows_on.ensures.empty i some (omega arith);
}

pub missing_on-requires : goal.missing_on-requires
missing_on-requires c =
    let bs = all_blocks c.args.self.now in
    let slot : to_z w64 (of_z w64 c.args.slot) ≡ c.args.slot = search rules in
    let number : to_z w64 (of_z w64 c.block_of-number.result) ≡ block_of c.args.slot = search rules in
    let none : None ≡ block_at bs (block_of c.args.slot) = rw number at c.in-None.ensures.value in
    ap (λ s. block_at bs (block_of s)) slot ∙ sym none

pub returns-in-None : goal.returns-in-None
returns-in-None c =
    let slot : to_z w64 (of_z w64 c.args.slot) ≡ c.args.slot = search rules in
    record {
      at_least_one = c.missing_on.ensures.at_least_one;
      at_most = c.missing_on.ensures.at_most;
      empty = λ i some h. (rw slot at c.missing_on.ensures.empty) i (omega arith) h;
    }
