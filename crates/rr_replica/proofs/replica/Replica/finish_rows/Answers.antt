use Rattle.std.proofs.Common.{rules, ap, ◌∙◌}
use Rattle.rr_replica.specs.ReplicaWithRoom.{replica_state}
use Rattle.rr_replica.proofs.CopyingLemmas.{same_state, held_copied}
use Rattle.rr_replica.proofs.replica.Replica.finish_rows.Goals as goal

pub invariant_of-self : goal.invariant_of-self
invariant_of-self g c =
    let r = c.self.inside in
    held_copied g.A.Cells.cells g.A.Cells.row_limit r.series c.share_at.new.series c.share_at.ensures.archives r.schema
    r.origin r.next c.self.invariant

pub returns : goal.returns
returns g c = record {
  unchanged =
      let r = c.self.inside in
      same_state g.A.Cells.cells g.A.Cells.row_limit r.series c.share_at.new.series c.share_at.ensures.archives r.schema
      r.origin r.next ∙ ap replica_state c.self.view_is;
  keys = search rules;
}
