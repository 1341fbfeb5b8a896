use Rattle.std.proofs.Common.{◌≡◌, take}
use Rattle.rr_cells.specs.Joining.{with_cells}
use Rattle.rr_replica.specs.ReplicaWithRoom.{replica_state}
use Rattle.rr_replica.proofs.replica.Replica.join_cells.Given as goal

-- the cells so far are joined
abbrev pub invariant-loop-cell : goal.invariant-loop-cell
invariant-loop-cell g l = record {
  counted : l.joined ≡ l.cell-index;
  schema : l.self.schema ≡ l.initial.self.schema;
  joined : replica_state l.self ≡ with_cells (replica_state l.initial.self) (take l.cell-index l.cells);
}
