use Rattle.std.proofs.Common.{rules, ◌≡◌, true, drop, sym, ap, ◌∙◌, subst, to_z, of_z, w64}
use Rattle.rr_packed.specs.Slots.{block_of}
use Rattle.rr_packed.specs.Blocks.{all_blocks, row_at, items_by_slot, starts_before}
use Rattle.rr_packed.proofs.BlocksLemmas.{IsLeft, first_left}
use Rattle.rr_packed.proofs.blocks.Blocks.drop_before.Goals as goal

pub loop-self-preserved : goal.loop-self-preserved
loop-self-preserved c =
    let slot = to_z w64 (of_z w64 c.args.slot) in
    let bs = all_blocks c.loop-self.self in
    let number : to_z w64 (of_z w64 c.block_of-number.result) ≡ block_of slot = search rules in
    let before : starts_before (block_of slot) bs ≡ true = ap (λ n. starts_before n bs) (sym number)
    ∙ sym c.starts_before.ensures ∙ c.loop-self-test.true in
    let rest : all_blocks c.drop_first.new.self ≡ drop 1 bs = search rules in
    subst (λ es. IsLeft slot (row_at c.args.self.now) (items_by_slot es)) (sym rest)
    (first_left slot bs (row_at c.args.self.now) c.loop-self.self.ordered before c.loop-self.invariant)
