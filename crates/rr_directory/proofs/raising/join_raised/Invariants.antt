use Rattle.std.proofs.Common.{◌≡◌, take, slice_get, IfSome}
use Rattle.std.specs.FinMap.{entries}
use Rattle.std.specs.Option.{option_map}
use Rattle.rr_cells.specs.CellBounds.{IsCellOf}
use Rattle.rr_cells.specs.Listing.{seen_cell}
use Rattle.rr_replica.specs.ReplicaWithRoom.{replica_state}
use Rattle.rr_directory.specs.Raising.{with_raised}
use Rattle.rr_directory.proofs.raising.join_raised.Given as goal

-- the cells so far are joined, and the next is the one after them; the walk is over the older replica
abbrev pub invariant-loop : goal.invariant-loop
invariant-loop g l = record {
  next : option_map seen_cell l.next ≡ slice_get (entries l.older.cells) l.counter;
  of_schema : IfSome l.next (λ c. IsCellOf l.older.schema (seen_cell c));
  joined : replica_state l.replica
      ≡ with_raised l.added (replica_state l.initial.replica) (take l.counter (entries l.older.cells));
  schema : l.replica.schema ≡ l.initial.replica.schema;
  walk : l.walk ≡ l.older;
}
