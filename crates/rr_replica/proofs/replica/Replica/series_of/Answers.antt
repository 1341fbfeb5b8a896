use Rattle.rr_replica.specs.SeriesMap.{entries_of}
use Rattle.rr_replica.proofs.InMemoryLemmas.{kept_same}
use Rattle.rr_replica.proofs.IndexedLemmas.{entries_ordered}
use Rattle.rr_replica.proofs.replica.Replica.series_of.Goals as goal

pub invariant_of-self : goal.invariant_of-self
invariant_of-self g c =
    let r = c.self.inside in
    let new = c.add_key_in.new.series in
    let e = c.add_key_in.ensures in
    kept_same g.A.Cells.cells g.A.Cells.row_limit r.schema r.origin r.next (entries_of r.series) (entries_of new)
    c.self.invariant e.unchanged e.sized (entries_ordered new.indexed)
