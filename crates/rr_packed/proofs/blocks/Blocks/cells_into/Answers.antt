use Rattle.std.proofs.Common.{rules, ◌≡◌, ◌<◌, ◌+◌, ◌-◌, ◌++◌, pos, ◌+ℤ◌, sym, ap, ◌∙◌, Some, None, length, true≢false, arith, to_z, of_z, w64}
use Rattle.std.proofs.lemmas.List.{append-nil}
use Rattle.rr_packed.specs.Slots.{block_of, row_of}
use Rattle.rr_packed.specs.Blocks.{all_blocks, stored_in, row_at, items_of_block, block_at}
use Rattle.rr_packed.proofs.BlocksLemmas.{slots_after}
use Rattle.rr_packed.proofs.RunLemmas.{rows_alike, rows_empty}
use Rattle.rr_packed.proofs.blocks.Blocks.cells_into.Goals as goal

pub missing_on-requires : goal.missing_on-requires
missing_on-requires c =
    let bs = all_blocks c.args.self.now in
    let slot : to_z w64 (of_z w64 c.args.slot) ≡ c.args.slot = search rules in
    let number : to_z w64 (of_z w64 c.block_of-number.result) ≡ block_of c.args.slot = search rules in
    let none : None ≡ block_at bs (block_of c.args.slot) = rw number at c.in-None.ensures.value in
    ap (λ s. block_at bs (block_of s)) slot ∙ sym none

pub returns-in_ok-cells_into-in-Some-clause-added : goal.returns-in_ok-cells_into-in-Some-clause-added
returns-in_ok-cells_into-in-Some-clause-added c =
    let bs = all_blocks c.args.self.now in
    let b = c.in-Some.block.now in
    let from = c.row_of-row.result.value in
    let slot : to_z w64 (of_z w64 c.args.slot) ≡ c.args.slot = search rules in
    let number : to_z w64 (of_z w64 c.block_of-number.result) ≡ block_of c.args.slot = search rules in
    let row : from ≡ row_of c.args.slot = search rules in
    let has : Some b ≡ block_at bs (block_of c.args.slot) = rw number at c.in-Some.ensures.value in
    rw slot at c.in_ok-cells_into-in-Some.ensures.added
    ∙ ap (λ cells. c.args.run.now.items ++ cells) (
    rows_alike (λ i. stored_in b (from + i)) (λ i. row_at c.args.self.now (c.args.slot +ℤ pos i)) c.args.slot
    (64 - from) (λ i h.
    let near : row_of c.args.slot + i < 64 = omega arith in
    (λ j. items_of_block (has j) (row j + i)) ∙ sym (slots_after bs c.args.slot i near)))

pub returns-in_err-cells_into-in-Some-clause-room : goal.returns-in_err-cells_into-in-Some-clause-room
returns-in_err-cells_into-in-Some-clause-room c = λ room.
    let bs = all_blocks c.args.self.now in
    let b = c.in-Some.block.now in
    let from = c.row_of-row.result.value in
    let slot : to_z w64 (of_z w64 c.args.slot) ≡ c.args.slot = search rules in
    let number : to_z w64 (of_z w64 c.block_of-number.result) ≡ block_of c.args.slot = search rules in
    let row : from ≡ row_of c.args.slot = search rules in
    let has : Some b ≡ block_at bs (block_of c.args.slot) = rw number at c.in-Some.ensures.value in
    let same = ap length (rows_alike (λ i. stored_in b (from + i))
    (λ i. row_at c.args.self.now (c.args.slot +ℤ pos i)) c.args.slot (64 - from) (λ i h.
    let near : row_of c.args.slot + i < 64 = omega arith in
    (λ j. items_of_block (has j) (row j + i)) ∙ sym (slots_after bs c.args.slot i near))) in
    let fits = room (64 - from) in
    absurd (true≢false (sym ((rw slot at c.in_err-cells_into-in-Some.ensures.room) (omega arith))))

pub returns-in-None-clause-added : goal.returns-in-None-clause-added
returns-in-None-clause-added c =
    let slot : to_z w64 (of_z w64 c.args.slot) ≡ c.args.slot = search rules in
    sym (ap (λ cells. c.args.run.now.items ++ cells) (
    rows_empty (λ i. row_at c.args.self.now (c.args.slot +ℤ pos i)) c.args.slot c.missing_on.result
    (λ i h. (rw slot at c.missing_on.ensures.empty) i (omega arith) h))
    ∙ append-nil c.args.run.now.items)
