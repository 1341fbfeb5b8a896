use Rattle.std.proofs.Common.{rules, ◌≡◌, None, slice_get, sym, ap, ◌∙◌}
use Rattle.rr_replica.specs.Indexed.{index_of}
use Rattle.rr_replica.specs.SeriesMap.{entries_of}
use Rattle.rr_replica.proofs.IndexedLemmas.{archives_nowhere, at_end, entries_ordered, key_at}
use Rattle.rr_replica.proofs.JoinedCell.{before_fresh}
use Rattle.rr_replica.proofs.NumberedLemmas.{known, unknown, with_new}
use Rattle.rr_replica.proofs.Shown.{cells_same}
use Rattle.rr_replica.proofs.room.add_key_in.Goals as goal

pub returns-in-Some-clause-added : goal.returns-in-Some-clause-added
returns-in-Some-clause-added g c = sym (known c.args.series.now.indexed c.args.key.now _ c.in-Some.ensures)

pub returns-in_ok-insert-in-None-clause-unchanged : goal.returns-in_ok-insert-in-None-clause-unchanged
returns-in_ok-insert-in-None-clause-unchanged g c =
    let cells = g.A.Cells.cells in
    let m = c.args.series.now in
    let old = entries_of m in
    let key = c.args.key.now in
    let absent : None ≡ index_of m.indices.entries key = c.in-None.ensures in
    let none = sym (archives_nowhere m.indexed key absent) in
    let fresh = c.in_ok-archives-in-None in
    let next = c.insert.new.self in
    let sets = c.in_ok-insert-in-None.ensures.sets in
    let ordered_before = entries_ordered m.indexed in
    cells_same cells old (entries_of next) key fresh.archives sets ordered_before (entries_ordered next.indexed)
    (λ i. sym (before_fresh cells key old ordered_before fresh.archives.items none fresh.ensures.empty i))

pub returns-in_ok-insert-in-None-clause-added : goal.returns-in_ok-insert-in-None-clause-added
returns-in_ok-insert-in-None-clause-added g c =
    let m = c.args.series.now in
    let key = c.args.key.now in
    let absent : None ≡ index_of m.indices.entries key = c.in-None.ensures in
    c.in_ok-insert-in-None.ensures.keys ∙ sym (with_new m.keys.items key (unknown m.indexed key absent))

pub returns-in-Some-clause-key : goal.returns-in-Some-clause-key
returns-in-Some-clause-key g c =
    let m = c.args.series.now in
    key_at m.keys.items m.indices.entries m.indexed.there c.args.key.now _ (sym c.in-Some.ensures)

pub returns-in_ok-insert-in-None-clause-key : goal.returns-in_ok-insert-in-None-clause-key
returns-in_ok-insert-in-None-clause-key g c =
    let keys = c.args.series.now.keys.items in
    ap (λ ks. slice_get ks c.len-index.result) c.in_ok-insert-in-None.ensures.keys
    ∙ at_end keys c.len-index.result c.args.key.now (search rules)
