use Rattle.std.proofs.Common.{rules, ◌≡◌, ◌<◌, ◌+◌, pos, ◌+ℤ◌, sym, ap, ◌∙◌, Some, None, arith, to_z, of_z, w64}
use Rattle.rr_packed.specs.Slots.{block_of, row_of}
use Rattle.rr_packed.specs.Blocks.{all_blocks, stored_in, row_at, items_of_block, block_at}
use Rattle.rr_packed.proofs.BlocksLemmas.{slots_after}
use Rattle.rr_packed.proofs.CountLemmas.{in_all_alike, in_all_empty}
use Rattle.rr_packed.proofs.blocks.Blocks.entries_on.Goals as goal

pub missing_on-requires : goal.missing_on-requires
missing_on-requires c =
    let bs = all_blocks c.args.self.now in
    let slot : to_z w64 (of_z w64 c.args.slot) ≡ c.args.slot = search rules in
    let number : to_z w64 (of_z w64 c.block_of-number.result) ≡ block_of c.args.slot = search rules in
    let none : None ≡ block_at bs (block_of c.args.slot) = rw number at c.in-None.ensures.value in
    ap (λ s. block_at bs (block_of s)) slot ∙ sym none

pub returns-in-Some-clause-counted : goal.returns-in-Some-clause-counted
returns-in-Some-clause-counted c =
    let bs = all_blocks c.args.self.now in
    let b = c.in-Some.block.now in
    let number : to_z w64 (of_z w64 c.block_of-number.result) ≡ block_of c.args.slot = search rules in
    let row : c.row_of-row.result.value ≡ row_of c.args.slot = search rules in
    let has : Some b ≡ block_at bs (block_of c.args.slot) = rw number at c.in-Some.ensures.value in
    c.entries_on.ensures
    ∙ in_all_alike (λ i. stored_in b (c.row_of-row.result.value + i))
    (λ i. row_at c.args.self.now (c.args.slot +ℤ pos i))
    c.min-on.result (λ i h.
    let near : row_of c.args.slot + i < 64 = omega arith in
    (λ j. items_of_block (has j) (row j + i)) ∙ sym (slots_after bs c.args.slot i near))

pub returns-in-None-clause-counted : goal.returns-in-None-clause-counted
returns-in-None-clause-counted c =
    let slot : to_z w64 (of_z w64 c.args.slot) ≡ c.args.slot = search rules in
    sym (in_all_empty (λ i. row_at c.args.self.now (c.args.slot +ℤ pos i)) c.missing_on.result
    (λ i h. (rw slot at c.missing_on.ensures.empty) i (omega arith) h))
