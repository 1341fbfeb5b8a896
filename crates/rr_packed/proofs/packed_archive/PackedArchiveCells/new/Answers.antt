use Rattle.std.proofs.Common.{◌≡◌, ℤ, [], refl, sym, ap, subst, ◌∙◌, None}
use Rattle.std.specs.FinMap.{len, len-empty}
use Rattle.rr_contrib.specs.declared.contribution.Contribution.{Contribution}
use Rattle.rr_archive.specs.CellSlots.{cell_slot_cmp}
use Rattle.rr_archive.specs.LiveRows.{IsArchiveStateBy}
use Rattle.rr_archive.proofs.LiveChanges.{cells_none, held_none}
use Rattle.rr_packed.specs.declared.blocks.Blocks.{Blocks}
use Rattle.rr_packed.specs.Blocks.{all_blocks, items_by_slot, row_at}
use Rattle.rr_packed.proofs.BlocksLemmas.{slot_missing}
use Rattle.rr_packed.proofs.packed_archive.PackedArchiveCells.new.Goals as goal

-- without a block nothing is stored of a slot
empty : (b : Blocks) → all_blocks b ≡ [] → (slot : ℤ) → row_at b slot ≡ []
empty b none slot = ap (λ bs. items_by_slot bs slot) none ∙ slot_missing [] slot refl

pub invariant_of-result : goal.invariant_of-result
invariant_of-result c =
    let f = row_at c.new.result in
    record {
      some_row = c.requires.rows_at_least;
      held = subst (λ n. IsArchiveStateBy c.args.rows None n f)
          (sym (ap len (cells_none c.args.rows f (empty c.new.result c.new.ensures)) ∙ len-empty cell_slot_cmp
          Contribution))
          (held_none c.args.rows f (empty c.new.result c.new.ensures));
    }

pub returns-clause-empty : goal.returns-clause-empty
returns-clause-empty c = cells_none c.args.rows (row_at c.new.result) (empty c.new.result c.new.ensures)
