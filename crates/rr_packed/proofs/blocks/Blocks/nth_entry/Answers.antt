use Rattle.std.proofs.Common.{rules, ◌≡◌, List, sym, ap, ◌∙◌, Some, None, to_z, of_z, w64}
use Rattle.std.specs.List.{slice_get}
use Rattle.rr_archive.specs.declared.entry.Entry.{Entry}
use Rattle.rr_packed.specs.Slots.{block_of, row_of}
use Rattle.rr_packed.specs.Blocks.{all_blocks, stored_in, block_at}
use Rattle.rr_packed.proofs.BlocksLemmas.{slot_found, slot_missing}
use Rattle.rr_packed.proofs.blocks.Blocks.nth_entry.Goals as goal

pub returns-in-Some : goal.returns-in-Some
returns-in-Some c =
    let bs = all_blocks c.args.self.now in
    let number : to_z w64 (of_z w64 c.block_of-number.result) ≡ block_of c.args.slot = search rules in
    let row : c.row_of.result.value ≡ row_of c.args.slot = search rules in
    let has : Some c.in-Some.block.now ≡ block_at bs (block_of c.args.slot) = rw number at c.in-Some.ensures.value in
    c.nth.ensures
    ∙ ap (λ (es : List Entry). slice_get es c.args.i) (ap (stored_in c.in-Some.block.now) row
    ∙ sym (slot_found bs c.args.slot c.in-Some.block.now has))

pub returns-in-None : goal.returns-in-None
returns-in-None c =
    let bs = all_blocks c.args.self.now in
    let number : to_z w64 (of_z w64 c.block_of-number.result) ≡ block_of c.args.slot = search rules in
    let none : None ≡ block_at bs (block_of c.args.slot) = rw number at c.in-None.ensures.value in
    ap (λ (es : List Entry). slice_get es c.args.i) (sym (slot_missing bs c.args.slot none))
