use Rattle.std.proofs.Common.{◌≡◌, drop, IfSome}
use Rattle.rr_replica.specs.ReplicaWithRoom.{replica_state}
use Rattle.rr_directory.specs.Reading.{after_files}
use Rattle.rr_directory.specs.Recovering.{first_reached, reached}
use Rattle.rr_directory.proofs.recovered.read_files.Given as goal

-- to read the files that are left now is to read all
abbrev pub invariant-loop-i : goal.invariant-loop-i
invariant-loop-i g l = record {
  same : IfSome (g.D.Directory.bytes l.directory) (λ of. after_files l.schema of (reached l.replica l.so_far)
      (drop l.i l.files) ≡ after_files l.schema of (first_reached (replica_state l.initial.replica)) l.files);
  schema : l.schema ≡ l.replica.schema;
}
