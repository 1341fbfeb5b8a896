use Rattle.std.proofs.Common.{rules, ◌≡◌, ◌+◌, sym, ap, ◌∙◌}
use Rattle.rr_packed.specs.declared.block.Block.{Block}
use Rattle.rr_packed.specs.declared.finished_rows.FinishedRows.{FinishedRows}
use Rattle.rr_packed.specs.declared.packed_rows.PackedRows.{PackedRows}
use Rattle.rr_packed.specs.BlockRows.{items_in}
use Rattle.rr_packed.specs.Blocks.{stored_in}
use Rattle.rr_packed.specs.PackedRows.{items_packed}
use Rattle.rr_packed.proofs.held_block.HeldBlockRows.rows_on.Goals as goal

pub returns-in-Own : goal.returns-in-Own
returns-in-Own c = record {
  at_least_one = search rules;
  at_most = search rules;
  empty =
      λ i some h.
      let block : c.deref.result.now ≡ c.in-Own.block.value = search rules in
      ap (λ b. stored_in b (c.args.number.value + i)) c.in-Own.is
      ∙ ap (λ (b : Block). items_in b (c.args.number.value + i)) (sym block)
      ∙ c.rows_on.ensures.empty i some h;
}

pub returns-in-Finished : goal.returns-in-Finished
returns-in-Finished c = record {
  at_least_one = search rules;
  at_most = search rules;
  empty =
      λ i some h.
      let finished : c.deref-in-Finished.result.now ≡ c.in-Finished.finished.value = search rules in
      ap (λ b. stored_in b (c.args.number.value + i)) c.in-Finished.is
      ∙ ap (λ (f : FinishedRows). items_in f.rows (c.args.number.value + i)) (sym finished)
      ∙ c.rows_on-in-Finished.ensures.empty i some h;
}

pub returns-in-Packed : goal.returns-in-Packed
returns-in-Packed c = record {
  at_least_one = search rules;
  at_most = search rules;
  empty =
      λ i some h.
      let packed : c.deref-in-Packed.result.now ≡ c.in-Packed.packed.value = search rules in
      ap (λ b. stored_in b (c.args.number.value + i)) c.in-Packed.is
      ∙ ap (λ (p : PackedRows). items_packed p.bytes.items (c.args.number.value + i)) (sym packed)
      ∙ c.rows_on-in-Packed.ensures.empty i some h;
}
