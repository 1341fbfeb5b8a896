use Rattle.std.proofs.Common.{◌≡◌, List, Ok, map, sym, ap, subst, ◌∙◌}
use Rattle.std.specs.List.{AllByRecursion}
use Rattle.rr_schema.specs.Schema.{Layout}
use Rattle.rr_journal.specs.declared.group.Group.{Group}
use Rattle.rr_journal.specs.declared.meaning.Record.{Record}
use Rattle.rr_journal.specs.Body.{HasCells, meaning_of, packed_cells, record_meaning}
use Rattle.rr_journal.specs.Text.{raw_of}
use Rattle.rr_recovery.specs.Taking.{IsCheckedGroup}
use Rattle.rr_recovery.proofs.MeaningLemmas.{as_bad_ok, cells_checked}
use Rattle.rr_recovery.proofs.taking.take_record.Goals as goal

pub take_groups-requires : goal.take_groups-requires
take_groups-requires g c =
    let s = c.args.replica.now.schema in
    let r = raw_of c.args.raw.now in
    let groups = c.in-Cells.groups.items in
    let read : record_meaning s r ≡ Ok (HasCells (map packed_cells groups)) =
    ap (λ (t : Layout). record_meaning t r) (sym c.requires)
    ∙ as_bad_ok _ _ (c.in_ok-meaning.ensures ∙ ap (λ (m : Record). Ok (meaning_of m)) c.in-Cells.is) in
    subst (λ (l : List Group). AllByRecursion (IsCheckedGroup s) (map packed_cells l)) (sym c.deref.ensures.value)
    (cells_checked s r (map packed_cells groups) read)
