-- The laws of puts.
use Rattle.std.proofs.Common.{◌≡◌, true, refl, sym, ap, ◌∙◌, true≢false, Option, Some, None, is_some}
use Rattle.std.specs.Prelude.{nat_eq, Contains}
use Rattle.std.specs.Cmp.Lexicographic.{pointwise, bytes_decides}
use Rattle.std.specs.FinMap.{get}
use Rattle.std.proofs.lemmas.Bool.{false_from_ne_true}
use Rattle.rr_schema.specs.Schema.{archive_at}
use Rattle.rr_contrib.specs.declared.contribution.Contribution.{Contribution}
use Rattle.rr_contrib.specs.Contributions.{contribution_with}
use Rattle.rr_archive.specs.CellSlots.{CellSlot}
use Rattle.rr_archive.proofs.Trimming.{trimmed_dead}
use Rattle.rr_archive.proofs.FewLive.{cells_are_few}
use Rattle.rr_cells.specs.Samples.{name_of, marks_of}
use Rattle.rr_cells.specs.Cells.{name_at, cell_slot_of, archive_cells}
use Rattle.rr_cells.specs.Puts.{slot_sample_of}
use Rattle.rr_cells.specs.Laws.{PutGoesByArchives, PutLeavesOtherKeys, PutIsTrimmed, DeadLeaveNoTrace, LiveCellsAreFew, mark_in}
use Rattle.rr_cells.proofs.Local.{get-archive_cells, live_local, trimmed_local}
use Rattle.rr_cells.proofs.PutsLemmas.{puts_trimmed, put_at, put_other_key}

pub put_goes_by_archives : PutGoesByArchives
put_goes_by_archives s m x archive is kept there = put_at s is x archive m kept there

pub put_leaves_other_keys : PutLeavesOtherKeys
put_leaves_other_keys s m x key archive is kept apart =
    put_other_key s is x key archive m kept (false_from_ne_true (pointwise nat_eq x.key key)
    (λ e. apart ((bytes_decides x.key key).0 e)))

pub put_is_trimmed : PutIsTrimmed
put_is_trimmed s m x is kept = puts_trimmed s is (marks_of s x) m kept

pub dead_leave_no_trace : DeadLeaveNoTrace
dead_leave_no_trace s m x archive is kept there dead =
    let k = mark_in x archive in
    let p = cell_slot_of (name_of s k) in
    let rows = archive_cells m x.key archive in
    let trimmed = sym (trimmed_local x.key archive s is m) ∙ ap (λ c. archive_cells c x.key archive) kept in
    put_at s is x archive m kept there
    ∙ trimmed_dead (archive_at s archive).rows rows p (contribution_with (get rows p) (slot_sample_of s k)) trimmed
    (sym (live_local x.key archive s is m p) ∙ dead)

pub cells_few : LiveCellsAreFew
cells_few s m key archive origins is kept of =
    cells_are_few (archive_at s archive).rows origins (archive_cells m key archive)
    (sym (trimmed_local key archive s is m) ∙ ap (λ c. archive_cells c key archive) kept)
    (λ p h. by_cell p (get m (name_at key archive p)) refl (ap is_some (sym (get-archive_cells key archive m p)) ∙ h))
  where
    by_cell : (p : CellSlot) (o : Option Contribution) → get m (name_at key archive p) ≡ o → is_some o ≡ true
        → Contains origins p.origin
    by_cell p None e h = absurd (true≢false (sym h))
    by_cell p (Some c) e h = of (name_at key archive p) c e refl refl
