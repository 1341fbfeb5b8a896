use Rattle.std.proofs.Common.{subst, sym, ap, ◌∙◌}
use Rattle.rr_schema.specs.Schema.{Layout}
use Rattle.rr_replica.specs.SeriesMap.{entries_of}
use Rattle.rr_replica.specs.InMemory.{IsReplicaInMemory, replica_state_in}
use Rattle.rr_replica.specs.ReplicaWithRoom.{replica_state}
use Rattle.rr_replica.proofs.CopyingLemmas.{same_state, held_copied}
use Rattle.rr_replica.proofs.replica.Replica.copy.Goals as goal

pub invariant_of-result : goal.invariant_of-result
invariant_of-result g c =
    let r = c.self.inside in
    let cells = g.A.Cells.cells in
    let limit = g.A.Cells.row_limit in
    let new = c.in_ok-copy_series.field-0 in
    subst (λ (s : Layout). IsReplicaInMemory cells limit s r.origin r.next (entries_of new))
    (sym c.in_ok-copy.ensures.same) (held_copied cells limit r.series new c.in_ok-copy_series.ensures.archives r.schema
    r.origin
    r.next c.self.invariant)

pub returns-clause-state : goal.returns-clause-state
returns-clause-state g c =
    let r = c.self.inside in
    let cells = g.A.Cells.cells in
    let limit = g.A.Cells.row_limit in
    let new = c.in_ok-copy_series.field-0 in
    ap (λ (s : Layout). replica_state_in cells s r.origin r.next (entries_of new)) c.in_ok-copy.ensures.same
    ∙ same_state cells limit r.series new c.in_ok-copy_series.ensures.archives r.schema r.origin r.next
    ∙ ap replica_state c.self.view_is
