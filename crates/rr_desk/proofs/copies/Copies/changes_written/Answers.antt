use Rattle.left_right.specs.Sides.{view}
use Rattle.rr_replica.specs.ReplicaWithRoom.{replica_state}
use Rattle.rr_desk.specs.Writers.{all_ops, pending_ops}
use Rattle.rr_desk.proofs.KeeperStateLemmas.{tied-cells}
use Rattle.rr_desk.proofs.UnwrittenLemmas.{unwritten-none}
use Rattle.rr_desk.proofs.copies.Copies.changes_written.Goals as goal

pub invariant_of-self : goal.invariant_of-self
invariant_of-self g c =
    let k = c.self.inside in (
      c.self.invariant.0,
      c.self.invariant.1,
      unwritten-none (replica_state k.own) k.own.keys k.unwritten (all_ops k.writer) c.self.invariant.2 _
          (tied-cells (view k.writer.desk.place) (replica_state k.writer.desk.shown.value.replica) (replica_state k.own)
          (pending_ops k.writer) c.self.invariant.0.tied) c.clear.ensures.count,
    )
