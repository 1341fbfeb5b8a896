use Rattle.std.proofs.Common.{◌≡◌, ◌≤◌, List}
use Rattle.std.specs.Option.{option_map}
use Rattle.rr_io.specs.Counted.{inner_of, failures_of}
use Rattle.rr_io.specs.Stream.{ConsumesSome}
use Rattle.rr_schema.specs.Added.{older}
use Rattle.rr_page.specs.PageReading.{last_name}
use Rattle.rr_cells.specs.CellBounds.{NamedCell}
use Rattle.rr_cells.specs.Listing.{owned_cell}
use Rattle.rr_replica.specs.ReplicaWithRoom.{replica_state}
use Rattle.rr_snapshot.specs.Stream.{Digests}
use Rattle.rr_snapshot.proofs.CellsLemmas.{IsSoFar}
use Rattle.rr_cells.specs.Raising.{raised_name}
use Rattle.rr_snapshot.specs.Loading.{HasJoined}
use Rattle.rr_snapshot.proofs.loading.join_cells_from.Given as goal

-- the cells so far are read, digested and joined, and the last is kept, raised
abbrev pub invariant-loop : goal.invariant-loop
invariant-loop g l = record {
  cells : (es : List NamedCell) × IsSoFar l.head.version (older l.initial.replica.schema l.head.addition) es
      l.head.count l.counter (g.R.Read.remaining (inner_of l.initial.input)) (g.R.Read.remaining (inner_of l.input))
      × (option_map (raised_name l.head.addition) (last_name es) ≡ option_map (λ c. (owned_cell c).0) l.before)
      × HasJoined l.head.addition (replica_state l.initial.replica) (replica_state l.replica) l.has_own es;
  digest : Digests (g.R.Read.remaining (inner_of l.initial.input)) (g.R.Read.remaining (inner_of l.input))
      l.initial.hasher l.hasher;
  prefix : ConsumesSome (g.R.Read.remaining (inner_of l.initial.input)) (g.R.Read.remaining (inner_of l.input));
  count : failures_of l.initial.input ≤ failures_of l.input;
}
