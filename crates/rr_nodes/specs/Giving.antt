-- What a node gives, it holds: the cells of a difference, and of a snapshot that is loaded elsewhere.
use Rattle.std.specs.Prelude.{◌≡◌, ◌≢◌, ℕ, ◌≤◌, false, List, All, Some, Ok}
use Rattle.std.specs.FinMap.{get, len, entries, contains_key}
use Rattle.rr_schema.specs.Schema.{Layout, IsLayout}
use Rattle.rr_contrib.specs.declared.contribution.Contribution.{Contribution}
use Rattle.rr_cells.specs.CellNames.{CellName}
use Rattle.rr_cells.specs.declared.op.Op.{Op}
use Rattle.rr_cells.specs.Cells.{Cells}
use Rattle.rr_cells.specs.ReplicaState.{IsReplicaState}
use Rattle.rr_desk.specs.KeeperState.{KeeperState, cells_of, own_replica}
use Rattle.rr_delta.specs.Difference.{newer_cells}
use Rattle.rr_delta.specs.Names.{NamedVersion}
use Rattle.rr_page.specs.Version.{latest}
use Rattle.rr_snapshot.specs.declared.heading.TheConstants.{MAX_SNAPSHOT_CELLS}
use Rattle.rr_snapshot.specs.Snapshot.{snapshot_text}
use Rattle.rr_snapshot.specs.Loading.{loaded_at}
use Rattle.rr_nodes.specs.Nodes.{Node, Moment, Deed, held_at, after_all}
use Rattle.rr_nodes.specs.Models.{cell_model}
use Rattle.rr_nodes.specs.Keepers.{IsNode}

-- each cell of a difference is held, whatever summary it is against
abbrev pub GivenAreThere : Type 0
GivenAreThere = (m : Cells) (summary : List NamedVersion)
    → All (λ e. get m e.0 ≡ Some e.1) (newer_cells summary (entries m))

-- no cell of an origin that no node has was ever held
abbrev pub UnusedHaveNoCells : Type 0
UnusedHaveNoCells =
    (s : Layout) (deeds : List Deed) (origin : ℕ) (at : Moment) (m : Cells) (name : CellName) (c : Contribution)
    → IsLayout s
    → contains_key (after_all cell_model s deeds) origin ≡ false → held_at (after_all cell_model s deeds) at ≡ Some m
    → get m name ≡ Some c
    → name.origin ≢ origin

-- so what the keeper of a node saves is loaded, under an origin that no node has, as a replica that holds what the node
-- does
abbrev pub SavedIsLoadedElsewhere : Type 0
SavedIsLoadedElsewhere =
    (s : Layout) (deeds : List Deed) (opening : List Op) (k : KeeperState) (n : Node Cells) (origin : ℕ) → IsLayout s
    → get (after_all cell_model s deeds) k.origin ≡ Some n → k.schema ≡ s → IsNode opening k n
    → IsReplicaState (own_replica k) → len (cells_of k) ≤ MAX_SNAPSHOT_CELLS
    → contains_key (after_all cell_model s deeds) origin ≡ false
    → loaded_at k.schema origin (snapshot_text latest k.schema k.origin (entries (cells_of k)))
    ≡ Ok (record { schema = k.schema; origin = origin; next = 1; cells = n.now })
