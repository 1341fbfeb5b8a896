-- The laws of updates, each the contract of a function of `src/laws.rt`.
use Rattle.std.specs.Prelude.{◌≡◌, ◌⊎◌, ◌<◌, true, List, ◌++◌, length, fold, Some, All, Contains}
use Rattle.std.specs.FinMap.{get}
use Rattle.rr_schema.specs.Schema.{Layout, IsLayout}
use Rattle.rr_contrib.specs.declared.contribution.Contribution.{Contribution}
use Rattle.rr_cells.specs.declared.cell.Cell.{Cell}
use Rattle.rr_cells.specs.declared.op.Op.{Op}
use Rattle.rr_cells.specs.declared.op.Op.TheVariants.{Join}
use Rattle.rr_cells.specs.CellNames.{CellName}
use Rattle.rr_cells.specs.CellBounds.{NamedCell}
use Rattle.rr_cells.specs.Samples.{Sample, name_of}
use Rattle.rr_cells.specs.Cells.{Cells, IsTrimmed}
use Rattle.rr_cells.specs.Puts.{put_sample}
use Rattle.rr_cells.specs.Joins.{join, join_cell, join_cells}
use Rattle.rr_cells.specs.Laws.{mark_in}
use Rattle.rr_cells.specs.Listing.{owned_cell}
use Rattle.rr_cells.specs.ReplicaState.{ReplicaState, IsReplicaState}
use Rattle.rr_cells.specs.Operations.{step, outcome_of, AllAccepted}
use Rattle.rr_changes.specs.Updates.{GoesOn, Holds, IsUpdate, Write, AreWrites, is_held, last_cells, written_cells, IsPlaceOf}

-- ---- updates

-- each replica is one whose operations only add
abbrev pub ReplicasGoOn : Type 0
ReplicasGoOn = (h : ReplicaState) → IsReplicaState h → GoesOn h

-- and stays so after any operations
abbrev pub OperationsGoOn : Type 0
OperationsGoOn = (h : ReplicaState) (ops : List Op) → GoesOn h → GoesOn (fold step h ops)

-- whatever a replica takes, it still holds all that it held
abbrev pub OperationsOnlyAdd : Type 0
OperationsOnlyAdd = (h : ReplicaState) (ops : List Op) → GoesOn h
    → Holds h.schema (fold step h ops).cells h.cells

-- an update, joined to the cells before, makes the current cells
abbrev pub UpdateMakesTheCells : Type 0
UpdateMakesTheCells =
    (s : Layout) (before now update : Cells) → IsLayout s → Holds s now before → IsUpdate before now update
    → join s before update ≡ now

-- so it does for the cells that operations make, if a replica that has taken the first of them takes the others too
abbrev pub UpdateMakesTheOutcome : Type 0
UpdateMakesTheOutcome =
    (h : ReplicaState) (first others : List Op) (update : Cells) → GoesOn h
    → h.cells ≡ outcome_of h.schema first → AllAccepted h others
    → IsUpdate (outcome_of h.schema first) (outcome_of h.schema (first ++ others)) update
    → join h.schema (outcome_of h.schema first) update ≡ outcome_of h.schema (first ++ others)

-- joining all that was written to a map that holds the cells before the first write, in any order, any number of times
-- and with other cells between, gives all the cells of the last write
abbrev pub UpdatesBringAll : Type 0
UpdatesBringAll =
    (s : Layout) (m x : Cells) (writes : List Write) (es : List NamedCell) → IsLayout s → AreWrites s m writes
    → Holds s x m → All (Contains es) (written_cells writes)
    → Holds s (join_cells s x es) (last_cells m writes)

-- and exactly these, with no other cells
abbrev pub UpdatesMakeTheLast : Type 0
UpdatesMakeTheLast =
    (s : Layout) (m : Cells) (writes : List Write) (es : List NamedCell) → IsLayout s → IsTrimmed s m
    → AreWrites s m writes → All (Contains es) (written_cells writes) → All (Contains (written_cells writes)) es
    → join_cells s m es ≡ last_cells m writes

-- ---- where operations change cells

-- a cell held after a put was held before, or is the one of its archive that the sample falls in
abbrev pub PutChangesItsCells : Type 0
PutChangesItsCells =
    (s : Layout) (m : Cells) (x : Sample) (n : CellName) (c : Contribution) → IsLayout s → IsTrimmed s m
    → get (put_sample s m x) n ≡ Some c
    → (get m n ≡ Some c) ⊎ ((n.archive < length s.archives) × (n ≡ name_of s (mark_in x n.archive)))

-- a cell held after a join was held before, or is the one that was joined
abbrev pub JoinChangesItsCell : Type 0
JoinChangesItsCell =
    (s : Layout) (m : Cells) (p : CellName) (d : Contribution) (n : CellName) (c : Contribution) → IsLayout s
    → get (join_cell s m p d) n ≡ Some c
    → (get m n ≡ Some c) ⊎ ((n ≡ p) × (c ≡ d))

-- so a cell held after an operation was held before, or is of the operation's key, in the slot of its time
abbrev pub OperationChangesItsPlace : Type 0
OperationChangesItsPlace =
    (h : ReplicaState) (op : Op) (n : CellName) (c : Contribution) → GoesOn h
    → get (step h op).cells n ≡ Some c
    → (get h.cells n ≡ Some c) ⊎ IsPlaceOf h.schema op n

-- joining a cell that is held already changes no cell
abbrev pub HeldCellsChangeNothing : Type 0
HeldCellsChangeNothing =
    (h : ReplicaState) (c : Cell) → GoesOn h → is_held h.cells (owned_cell c) ≡ true
    → (step h (Join c)).cells ≡ h.cells
