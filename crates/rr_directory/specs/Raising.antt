-- The cells of a replica under a schema that has one more archive.
use Rattle.std.specs.Prelude.{◌≡◌, ◌<◌, ℕ, List, fold, length, map}
use Rattle.std.specs.FinMap.{entries}
use Rattle.rr_schema.specs.Added.{older}
use Rattle.rr_schema.specs.Schema.{Layout, IsLayout}
use Rattle.rr_schema.specs.declared.added.Addition.TheVariants.{Archive}
use Rattle.rr_cells.specs.CellBounds.{NamedCell}
use Rattle.rr_cells.specs.Cells.{Cells, IsTrimmed}
use Rattle.rr_cells.specs.Joining.{with_named}
use Rattle.rr_cells.specs.Raising.{raised_cell, raised_cells}
use Rattle.rr_cells.specs.ReplicaState.{ReplicaState}
use Rattle.rr_directory.specs.Recovering.{empty_state}

-- a replica with these cells joined in, in order, each under the number that its archive has once one is added
abbrev pub with_raised : ℕ → ReplicaState → List NamedCell → ReplicaState
with_raised added h es = fold with_named h (map (raised_cell (Archive added)) es)

-- a replica that held nothing then has exactly the earlier cells, with the numbers of their archives raised
abbrev pub RaisedAreTheCells : Type 0
RaisedAreTheCells =
    (s : Layout) (added origin : ℕ) (m : Cells) → added < length s.archives → IsLayout (older s (Archive added))
    → IsTrimmed (older s (Archive added)) m
    → (with_raised added (empty_state s origin) (entries m)).cells ≡ raised_cells (Archive added) m
