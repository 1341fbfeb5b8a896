use Rattle.std.proofs.Common.{◌≡◌, sym, subst, ◌∙◌, rules}
use Rattle.std.specs.Prelude.{IfSome}
use Rattle.std.specs.FinMap.{empty, get, get-empty}
use Rattle.rr_contrib.specs.declared.contribution.Contribution.{Contribution}
use Rattle.rr_archive.specs.CellSlots.{CellSlot, cell_slot_cmp}
use Rattle.rr_archive.specs.Cells.{ArchiveCells}
use Rattle.rr_tests.proofs.tests.archives.with_first.Goals as goal

none_there : (m : ArchiveCells) (q : CellSlot) (P : Contribution → Type 0) → m ≡ empty → IfSome (get m q) P
none_there m q P none = subst (λ m. IfSome (get m q) P) (sym none)
    (subst (λ o. IfSome o P) (sym (get-empty cell_slot_cmp q)) tt)

-- the archive holds no cell
pub put-requires : goal.put-requires
put-requires g c = record {
  newer = none_there _ _ _ (c.ready.ensures.same.cells ∙ c.new-archive.ensures.empty);
  slot = search rules;
  number_at_least = search rules;
  number_at_most = search rules;
  place = search rules;
}
