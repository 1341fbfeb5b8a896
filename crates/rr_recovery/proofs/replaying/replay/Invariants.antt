use Rattle.std.proofs.Common.{◌≤◌}
use Rattle.rr_io.specs.Counted.{failures_of, inner_of}
use Rattle.rr_replica.specs.ReplicaWithRoom.{replica_state}
use Rattle.rr_recovery.specs.Joining.{JoinsSome}
use Rattle.rr_recovery.specs.Taking.{recovery}
use Rattle.rr_recovery.proofs.ReplayLemmas.{SoFar, TakesTheSame}
use Rattle.rr_recovery.proofs.replaying.replay.Given as goal

-- to take the records that are left now is to take all
abbrev pub invariant-loop : goal.invariant-loop
invariant-loop g l = record {
  taken : SoFar l.initial.place l.place (g.R.Read.remaining (inner_of l.initial.input))
      (g.R.Read.remaining (inner_of l.input))
      (TakesTheSame (recovery l.initial.replica l.initial.found) (recovery l.replica l.found));
  joins : JoinsSome (replica_state l.initial.replica) (replica_state l.replica);
  failures : failures_of l.initial.input ≤ failures_of l.input;
}
