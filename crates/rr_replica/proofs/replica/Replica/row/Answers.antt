use Rattle.std.proofs.Common.{rules, ◌≡◌, ◌∙◌, Some, None, slice_get, length, sym, ap, to_z, of_z, w64}
use Rattle.std.proofs.lemmas.Bool.{ltb-true}
use Rattle.std.proofs.lemmas.Option.{slice_get-get_or, slice_get_past}
use Rattle.rr_archive.specs.Cells.{row_of}
use Rattle.rr_replica.specs.SeriesMap.{entries_of}
use Rattle.rr_replica.specs.InMemory.{archives_of}
use Rattle.rr_replica.proofs.InMemoryLemmas.{row_found, row_missing, row_unknown}
use Rattle.rr_replica.proofs.replica.Replica.row.Goals as goal

pub returns-in-Some-get : goal.returns-in-Some-get
returns-in-Some-get g c =
    let r = c.self.inside in
    let found : Some c.in-Some.archives.now ≡ archives_of (entries_of r.series) c.args.key.now = c.in-Some.ensures in
    let at : slice_get c.in-Some.archives.now.items c.args.archive ≡ Some c.in-Some-get.archive.now = (
    let l = c.in-Some-get.ensures.lookup in
    ap (λ items. slice_get items c.args.archive) (sym c.deref.ensures.value)
    ∙ slice_get-get_or c.deref.result.now c.args.archive c.in-Some-get.archive.now
    (ltb-true c.args.archive (length c.deref.result.now) (sym l.0))
    ∙ ap (λ a. Some a) (sym l.1)
    ) in
    let slot : to_z w64 (of_z w64 c.args.slot) ≡ c.args.slot = search rules in
    rw (← c.self.view_is) (c.row.ensures ∙ ap (row_of (g.A.Cells.cells c.in-Some-get.archive.now)) slot
    ∙ row_found g.A.Cells.cells g.A.Cells.row_limit r.schema r.origin r.next (entries_of r.series) c.args.key.now
    c.args.archive c.args.slot c.in-Some.archives.now c.in-Some-get.archive.now c.self.invariant found at)

pub returns-in-None-get : goal.returns-in-None-get
returns-in-None-get g c =
    let r = c.self.inside in
    let found : Some c.in-Some.archives.now ≡ archives_of (entries_of r.series) c.args.key.now = c.in-Some.ensures in
    let at : slice_get c.in-Some.archives.now.items c.args.archive ≡ None =
    ap (λ items. slice_get items c.args.archive) (sym c.deref.ensures.value)
    ∙ slice_get_past c.deref.result.now c.args.archive (c.in-None-get.ensures.lookup).3 in
    rw (← c.self.view_is) (row_missing g.A.Cells.cells g.A.Cells.row_limit r.schema r.origin r.next
    (entries_of r.series) c.args.key.now c.args.archive c.args.slot c.in-Some.archives.now c.self.invariant found
    at)

pub returns-in-None : goal.returns-in-None
returns-in-None g c =
    let r = c.self.inside in
    let none : None ≡ archives_of (entries_of r.series) c.args.key.now = c.in-None.ensures in
    rw (← c.self.view_is) (row_unknown g.A.Cells.cells g.A.Cells.row_limit r.schema r.origin r.next
    (entries_of r.series) c.args.key.now c.args.archive c.args.slot c.self.invariant none)
