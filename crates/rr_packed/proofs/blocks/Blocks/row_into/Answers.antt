use Rattle.std.proofs.Common.{rules, ◌≡◌, ◌++◌, length, sym, ap, ◌∙◌, Some, None, arith, to_z, of_z, w64}
use Rattle.std.proofs.lemmas.List.{append-nil}
use Rattle.std.proofs.lemmas.Result.{on_ok_weaker}
use Rattle.rr_packed.specs.Slots.{block_of, row_of}
use Rattle.rr_packed.specs.Blocks.{all_blocks, stored_in, row_at, block_at}
use Rattle.rr_packed.proofs.BlocksLemmas.{slot_found, slot_missing}
use Rattle.rr_packed.proofs.blocks.Blocks.row_into.Goals as goal

pub returns-in-Some-clause-added : goal.returns-in-Some-clause-added
returns-in-Some-clause-added c =
    let bs = all_blocks c.args.self.now in
    let number : to_z w64 (of_z w64 c.block_of-number.result) ≡ block_of c.args.slot = search rules in
    let row : c.row_of.result.value ≡ row_of c.args.slot = search rules in
    let has : Some c.in-Some.block.now ≡ block_at bs (block_of c.args.slot) = rw number at c.in-Some.ensures.value in
    let is = ap (stored_in c.in-Some.block.now) row ∙ sym (slot_found bs c.args.slot c.in-Some.block.now has) in
    on_ok_weaker c.row_into.result (λ e. e ∙ ap (λ es. c.args.row.now.items ++ es) is) c.row_into.ensures.added

pub returns-in-Some-clause-room : goal.returns-in-Some-clause-room
returns-in-Some-clause-room c = λ room.
    let bs = all_blocks c.args.self.now in
    let number : to_z w64 (of_z w64 c.block_of-number.result) ≡ block_of c.args.slot = search rules in
    let row : c.row_of.result.value ≡ row_of c.args.slot = search rules in
    let has : Some c.in-Some.block.now ≡ block_at bs (block_of c.args.slot) = rw number at c.in-Some.ensures.value in
    let same : length (stored_in c.in-Some.block.now c.row_of.result.value)
    ≡ length (row_at c.args.self.now c.args.slot) = ap length (ap (stored_in c.in-Some.block.now) row ∙ sym (slot_found bs c.args.slot c.in-Some.block.now has)) in
    c.row_into.ensures.room (omega arith)

pub returns-in-None-clause-added : goal.returns-in-None-clause-added
returns-in-None-clause-added c =
    let bs = all_blocks c.args.self.now in
    let number : to_z w64 (of_z w64 c.block_of-number.result) ≡ block_of c.args.slot = search rules in
    let none : None ≡ block_at bs (block_of c.args.slot) = rw number at c.in-None.ensures.value in
    sym (ap (λ es. c.args.row.now.items ++ es) (slot_missing bs c.args.slot none) ∙ append-nil c.args.row.now.items)
