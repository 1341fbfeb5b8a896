use Rattle.rr_replica.specs.ReplicaWithRoom.{replica_state}
use Rattle.rr_recovery.proofs.TakingLemmas.{joins_schema}
use Rattle.rr_directory.proofs.file.replay_file.Goals as goal

pub returns-in_err-stop-clause-schema : goal.returns-in_err-stop-clause-schema
returns-in_err-stop-clause-schema g c =
    joins_schema (replica_state c.args.replica.now) (replica_state c.replay.new.replica) c.in_err-stop.ensures.joins

pub returns-clause-schema : goal.returns-clause-schema
returns-clause-schema g c =
    joins_schema (replica_state c.args.replica.now) (replica_state c.replay.new.replica) c.in_ok-stop.ensures.joins
