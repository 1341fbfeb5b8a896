-- The laws of what was saved.
use Rattle.std.specs.Prelude.{◌≡◌, ◌≢◌, ℕ, ◌≤◌, None, Some, Ok, Err}
use Rattle.std.specs.FinMap.{get, len, entries}
use Rattle.rr_schema.specs.Schema.{Layout, IsLayout}
use Rattle.rr_schema.specs.Added.{addition_since}
use Rattle.rr_schema.specs.declared.added.Addition.{Addition}
use Rattle.rr_contrib.specs.declared.contribution.Contribution.{Contribution}
use Rattle.rr_cells.specs.CellNames.{CellName}
use Rattle.rr_cells.specs.ReplicaState.{IsReplicaState, ReplicaState}
use Rattle.rr_page.specs.Version.{latest}
use Rattle.rr_snapshot.specs.declared.fault.LoadFault.TheVariants.{SchemaDiffers}
use Rattle.rr_snapshot.specs.declared.heading.TheConstants.{MAX_SNAPSHOT_CELLS}
use Rattle.rr_snapshot.specs.Snapshot.{snapshot_text}
use Rattle.rr_cells.specs.Raising.{raised_cells}
use Rattle.rr_snapshot.specs.Loading.{loaded_at}

-- a saved replica is loaded, under its schema and an origin that is neither its own nor that of one of its cells, as a
-- replica of that origin with the same cells and the first number
abbrev pub SavedIsLoaded : Type 0
SavedIsLoaded =
    (h : ReplicaState) (origin : ℕ) → IsReplicaState h → len h.cells ≤ MAX_SNAPSHOT_CELLS → origin ≢ h.origin
    → ((n : CellName) (c : Contribution) → get h.cells n ≡ Some c → n.origin ≢ origin)
    → loaded_at h.schema origin (snapshot_text latest h.schema h.origin (entries h.cells))
    ≡ Ok (record { schema = h.schema; origin = origin; next = 1; cells = h.cells })

-- under the schema after an addition it is loaded with the same cells, the numbers of their archives raised
abbrev pub SavedIsRaised : Type 0
SavedIsRaised =
    (h : ReplicaState) (s : Layout) (a : Addition) (origin : ℕ) → IsReplicaState h → IsLayout s
    → addition_since s h.schema ≡ Some a
    → len h.cells ≤ MAX_SNAPSHOT_CELLS → origin ≢ h.origin
    → ((n : CellName) (c : Contribution) → get h.cells n ≡ Some c → n.origin ≢ origin)
    → loaded_at s origin (snapshot_text latest h.schema h.origin (entries h.cells))
    ≡ Ok (record { schema = s; origin = origin; next = 1; cells = raised_cells a h.cells })

-- and under any other schema it is refused
abbrev pub OtherSchemasDiffer : Type 0
OtherSchemasDiffer =
    (h : ReplicaState) (s : Layout) (origin : ℕ) → IsReplicaState h → IsLayout s → addition_since s h.schema ≡ None
    → len h.cells ≤ MAX_SNAPSHOT_CELLS
    → loaded_at s origin (snapshot_text latest h.schema h.origin (entries h.cells)) ≡ Err SchemaDiffers
