use Rattle.std.proofs.Common.{◌≡◌, List, Ok, map, sym, ap, subst, ◌∙◌}
use Rattle.std.specs.List.{AllByRecursion}
use Rattle.rr_journal.specs.declared.group.Group.{Group}
use Rattle.rr_journal.specs.declared.meaning.Record.{Record}
use Rattle.rr_journal.specs.Body.{HasCells, meaning_of, packed_cells, record_meaning}
use Rattle.rr_journal.specs.Text.{raw_of}
use Rattle.rr_recovery.specs.Taking.{IsCheckedGroup}
use Rattle.rr_recovery.proofs.MeaningLemmas.{cells_checked}
use Rattle.rr_replication.proofs.CellLemmas.{as_bad_ok}
use Rattle.rr_replication.proofs.cells.push_record.Goals as goal

pub push_groups-requires : goal.push_groups-requires
push_groups-requires c =
    let s = c.args.schema.now in
    let r = raw_of c.args.raw.now in
    let groups = c.in-Cells.groups.items in
    let read : record_meaning s r ≡ Ok (HasCells (map packed_cells groups)) =
    as_bad_ok _ _ (c.in_ok-groups.ensures ∙ ap (λ (m : Record). Ok (meaning_of m)) c.in-Cells.is) in
    subst (λ (l : List Group). AllByRecursion (IsCheckedGroup s) (map packed_cells l)) (sym c.deref.ensures.value)
    (cells_checked s r (map packed_cells groups) read)
