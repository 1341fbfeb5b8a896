use Rattle.std.proofs.Common.{◌≡◌}
use Rattle.rr_replica.specs.ReplicaWithRoom.{replica_state}
use Rattle.rr_replica.proofs.replica.Replica.finish_all_rows.Given as goal

abbrev pub invariant-loop-index : goal.invariant-loop-index
invariant-loop-index g l = replica_state l.self ≡ replica_state l.initial.self
