use Rattle.std.proofs.Common.{◌≡◌, Some, None}
use Rattle.rr_replica.specs.SeriesMap.{entries_of}
use Rattle.rr_replica.specs.InMemory.{archives_of}
use Rattle.rr_replica.proofs.Lending.{archive_found, archive_unknown}
use Rattle.rr_replica.proofs.replica.Replica.archive_near.Goals as goal

pub returns-in-Some : goal.returns-in-Some
returns-in-Some g c =
    let r = c.self.inside in
    let found : Some c.in-Some.archives.now ≡ archives_of (entries_of r.series) c.args.key.now = c.in-Some.ensures in
    let lookup = rw c.deref.ensures.value at c.get.ensures.lookup in
    rw (← c.self.view_is) (archive_found g.A.Cells.cells g.A.Cells.row_limit r.schema r.origin r.next
    (entries_of r.series) c.args.key.now c.args.i c.self.invariant c.in-Some.archives.now c.get.result
    found lookup.1 lookup.0)

pub returns-in-None : goal.returns-in-None
returns-in-None g c =
    let r = c.self.inside in
    let none : None ≡ archives_of (entries_of r.series) c.args.key.now = c.in-None.ensures in
    rw (← c.self.view_is) (archive_unknown g.A.Cells.cells g.A.Cells.row_limit r.schema r.origin r.next
    (entries_of r.series) c.args.key.now c.args.i c.self.invariant none)
