-- Which state of the cell model a cluster in memory represents.
use Rattle.std.specs.Prelude.{◌≡◌, ◌⊎◌, ℕ, ◌<◌, ◌==◌, List, [], length, Option, None, Some, Result, Ok, Err, ◌++◌}
use Rattle.std.specs.List.{list_any}
use Rattle.std.specs.Option.{option_map}
use Rattle.std.specs.Ordering.{nat_cmp}
use Rattle.std.specs.BTreeMap.{BTreeMap}
use Rattle.std.specs.BTreeSet.{BTreeSet, contains}
use Rattle.std.specs.Global.{Vec}
use Rattle.std.specs.FinMap.{get, entries}
use Rattle.rr_archive.specs.declared.archive.Cells.{Ghosts}
use Rattle.rr_join.specs.Values.{get_called}
use Rattle.rr_cells.specs.Samples.{Sample}
use Rattle.rr_cells.specs.Cells.{Cells, IsTrimmed}
use Rattle.rr_cells.specs.ReplicaState.{ReplicaState}
use Rattle.rr_replica.specs.ReplicaWithRoom.{ReplicaWithRoom, replica_state}
use Rattle.rr_text.specs.Bytes.{bytes_cmp}
use Rattle.rr_schema.specs.Schema.{Layout, IsLayout}
use Rattle.rr_cluster.specs.declared.fault.CommandFault.{CommandFault}
use Rattle.rr_cluster.specs.declared.fault.CommandFault.TheVariants.{Save}
use Rattle.rr_cluster.specs.declared.cluster.Cluster.{Cluster}
use Rattle.rr_cluster.specs.Command.{Command, IsOneLine}
use Rattle.rr_cluster.specs.declared.stop.Stop.{Stop}
use Rattle.rr_cluster.specs.declared.stop.Stop.TheVariants.{Refused, Memory}
use Rattle.rr_page.specs.Page.{IsPage}
use Rattle.rr_page.specs.Version.{latest}
use Rattle.rr_snapshot.specs.declared.fault.SaveFault.TheVariants.{TooManyCells}
use Rattle.rr_snapshot.specs.declared.heading.TheConstants.{MAX_SNAPSHOT_CELLS}
use Rattle.rr_snapshot.specs.Snapshot.{IsSnapshot, snapshot_text}
use Rattle.rr_cluster.specs.Commands.Bytes.{bytes_of_page}
use Rattle.rr_cluster.specs.Commands.Save.{snapshot_of}
use Rattle.rr_cluster.specs.Commands.Write.{with_all_written}
use Rattle.rr_cluster.specs.Model.{cell_model, with_joined}
use Rattle.rr_cluster.specs.State.{Node, Snapshot, State}
use Rattle.rr_cluster.specs.Stop.{Matches}

-- what a replica holds, as a node
abbrev pub node_of : ReplicaState → Node Cells
node_of h = record { schema = h.schema; origin = h.origin; next = h.next; contents = h.cells }

-- a replica as a node, wherever it has room
abbrev pub node_in : ReplicaWithRoom → Node Cells
node_in r = node_of (replica_state r)

-- the replica of a name, if there is one
abbrev pub replica_at : BTreeMap (Vec ℕ) ReplicaWithRoom → List ℕ → Option ReplicaWithRoom
replica_at = get_called bytes_cmp (λ (key : Vec ℕ). key.items)

-- the bytes of the page or the snapshot of a name, if there is one
abbrev pub bytes_at : BTreeMap (Vec ℕ) (Vec ℕ) → List ℕ → Option (List ℕ)
bytes_at texts name = option_map (λ text. text.items) (get_called bytes_cmp (λ (key : Vec ℕ). key.items) texts name)

-- a replica wrote the samples that a node writes, or is refused as the node is and has not changed
abbrev pub Writes : ReplicaState → ReplicaState → Result (Unit {0}) Stop → Result (List Sample) CommandFault → Type 0
Writes old new = Matches (λ _ xs. node_of new ≡ with_all_written cell_model (node_of old) xs) (new ≡ old)

-- the bytes are those of a page of these cells
pub record HasPageText (s : Layout) (cells : Cells) (bytes : List ℕ) : Type 0 where
  pub page : IsPage s (entries cells)
  pub text : bytes ≡ bytes_of_page s cells

-- the bytes of a snapshot
abbrev pub bytes_of_snapshot : Snapshot Cells → List ℕ
bytes_of_snapshot x = snapshot_text latest x.schema x.origin (entries x.contents)

-- a snapshot that a replica made: no cell of it is past the horizon
pub record IsKept (x : Snapshot Cells) : Type 0 where
  pub layout : IsLayout x.schema
  pub snapshot : IsSnapshot x.schema x.origin (entries x.contents)
  pub trimmed : IsTrimmed x.schema x.contents

-- the bytes are those of a snapshot that a replica made
pub record HasSnapshotText (x : Snapshot Cells) (bytes : List ℕ) : Type 0 where
  pub kept : IsKept x
  pub text : bytes ≡ bytes_of_snapshot x

-- a replica was saved as the bytes of a snapshot, or has too many cells for one, unless memory ran out
abbrev pub Saves : ReplicaState → Result (Vec ℕ) Stop → Type 0
Saves h (Ok bytes) = HasSnapshotText (snapshot_of cell_model (node_of h)) bytes.items
Saves h (Err stop) = (stop ≡ Memory) ⊎ ((stop ≡ Refused (Save TooManyCells))
    × (MAX_SNAPSHOT_CELLS < length (entries h.cells)))

-- a replica joined the cells of a page, as a node does, unless memory ran out
abbrev pub Joins : ReplicaState → ReplicaState → Result (Unit {0}) Stop → Cells → Type 0
Joins old new (Ok done) cells = node_of new ≡ with_joined (node_of old) cells
Joins old new (Err stop) cells = stop ≡ Memory

-- a set has these origins
abbrev pub HasOrigins : BTreeSet ℕ → List ℕ → Type 0
HasOrigins set origins = (origin : ℕ) → contains nat_cmp set origin ≡ list_any (λ used. used == origin) origins

module _ {A : Type 0} {g : Ghosts A} where
  -- a cluster has the schema, clock, nodes, pages, snapshots and origins of a state; the nodes have the schema of all,
  -- and each page and each snapshot is kept as its bytes
  pub record Represents (c : Cluster A g) (m : State Cells) : Type 0 where
    pub schema : c.schema ≡ m.schema
    pub clock : c.clock ≡ m.clock
    pub lead : c.lead ≡ m.lead
    pub nodes : (name : List ℕ) → get m.nodes name ≡ option_map node_in (replica_at c.nodes name)
    pub shared : (name : List ℕ) (r : ReplicaWithRoom) → replica_at c.nodes name ≡ Some r → r.schema ≡ c.schema
    pub pages : (name : List ℕ) → bytes_at c.pages name ≡ option_map (bytes_of_page m.schema) (get m.pages name)
    pub are_pages : (name : List ℕ) (page : Cells) → get m.pages name ≡ Some page → IsPage m.schema (entries page)
    pub snapshots : (name : List ℕ) → bytes_at c.snapshots name ≡ option_map bytes_of_snapshot (get m.snapshots name)
    pub are_kept : (name : List ℕ) (x : Snapshot Cells) → get m.snapshots name ≡ Some x → IsKept x
    pub origins : HasOrigins c.origins m.origins

  -- there is a cluster that represents the state once there is a state
  abbrev pub OptionRepresents : Option (Cluster A g) → Option (State Cells) → Type 0
  OptionRepresents None None = Unit {0}
  OptionRepresents (Some c) (Some m) = Represents c m
  OptionRepresents _ _ = ⊥

  -- a command left the cluster in the state that the model's leaves, or is refused as the model's is and changed
  -- nothing
  abbrev pub Leaves : Cluster A g → State Cells → Result (Unit {0}) Stop → Result (State Cells) CommandFault → Type 0
  Leaves new m = Matches (λ _ after. Represents new after) (Represents new m)

  -- a text was printed after what was there, and a state is left
  abbrev pub Prints : Option (Cluster A g) → List ℕ → List ℕ → Option (State Cells) × List ℕ → Type 0
  Prints new before after done = (after ≡ before ++ done.1) × OptionRepresents new done.0

  -- the first command made the cluster that the model's makes, and printed nothing, or is refused as the model's is
  abbrev pub Begins : Result (Cluster A g) Stop → Result (Option (State Cells) × List ℕ) CommandFault → Type 0
  Begins = Matches (λ c done. (done.1 ≡ []) × OptionRepresents (Some c) done.0) (Unit {0})

  -- a command printed what the model's prints and left its state, or is refused as the model's is
  abbrev pub Obeys : Option (Cluster A g) → Option (State Cells) → List ℕ → List ℕ → Result (Unit {0}) Stop
      → Result (Option (State Cells) × List ℕ) CommandFault → Type 0
  Obeys new m before after = Matches (λ _ done. Prints new before after done) (Prints new before after (m, []))

-- a command of one line, to a cluster that stands for a state
pub record CanObey {M : Type 0} (command : Command) (StandsFor : M → Type 0) : Type 0 where
  pub line : IsOneLine command
  pub state : (m : M) × StandsFor m
