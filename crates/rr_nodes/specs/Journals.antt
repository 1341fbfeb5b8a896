-- Journals: what a node writes there are cells that it held at moments, so reading them is taking cells, as from a
-- page.
use Rattle.std.specs.Prelude.{◌≡◌, ◌≢◌, ℕ, List, [], ◌∷◌, ◌++◌, map, fold, None, Some, All}
use Rattle.std.specs.FinMap.{empty, get}
use Rattle.rr_schema.specs.Schema.{Layout, IsLayout}
use Rattle.rr_cells.specs.CellNames.{CellName}
use Rattle.rr_cells.specs.CellBounds.{NamedCell}
use Rattle.rr_cells.specs.Cells.{Cells, IsTrimmed}
use Rattle.rr_cells.specs.declared.cell.Cell.{Cell}
use Rattle.rr_cells.specs.declared.op.Op.{Op}
use Rattle.rr_cells.specs.Joins.{join_cells}
use Rattle.rr_cells.specs.Knowledge.{Knowledge, live, union}
use Rattle.rr_cells.specs.Listing.{owned_cell}
use Rattle.rr_cells.specs.Operations.{outcome_of}
use Rattle.rr_changes.specs.Updates.{Holds, Write, AreWrites, last_cells, written_cells}
use Rattle.rr_changes.specs.Checkpoints.{AreFrom, IsCheckpoint, Batch, GoesForward, walked}
use Rattle.rr_desk.specs.KeeperState.{KeeperState}
use Rattle.rr_desk.specs.ReaderState.{with_joined}
use Rattle.rr_nodes.specs.Nodes.{Node, Nodes, Moment, Deed, took, held_at, after_all, taken}
use Rattle.rr_nodes.specs.Models.{cell_model, sample_model}
use Rattle.rr_nodes.specs.Keepers.{IsNode}
use Rattle.rr_nodes.specs.Calls.{Call, Desk, Desks, HasBegun, Leave}
use Rattle.rr_nodes.specs.Sessions.{now_at}

-- ---- what stands in a journal

-- each of these is what a node other than that of an origin held at some moment; a journal is of several nodes, since
-- each start is one under an origin of its own
abbrev pub AreMomentsElsewhere : Nodes Cells → ℕ → List Cells → Type 0
AreMomentsElsewhere ns origin moments =
    All (λ held. (there : Moment) × (there.origin ≢ origin) × (held_at ns there ≡ Some held)) moments

-- a cell as a node other than that of an origin held it at some moment
pub record WasElsewhere (ns : Nodes Cells) (origin : ℕ) (e : NamedCell) : Type 0 where
  pub there : Moment
  pub other : there.origin ≢ origin
  pub held : Cells
  pub was : held_at ns there ≡ Some held
  pub cell : get held e.0 ≡ Some e.1

-- so is each cell that was written, if the cells of each write are what was held elsewhere
abbrev pub WrittenWereHeld : Type 0
WrittenWereHeld =
    (s : Layout) (ns : Nodes Cells) (origin : ℕ) (m : Cells) (writes : List Write) → AreWrites s m writes
    → AreMomentsElsewhere ns origin (map (λ w. w.cells) writes)
    → All (WasElsewhere ns origin) (written_cells writes)

-- and each of a checkpoint, read key by key or a number of cells at a time
abbrev pub CheckpointsWereHeld : Type 0
CheckpointsWereHeld =
    (ns : Nodes Cells) (origin : ℕ) (moments : List Cells) (cells : List NamedCell) → IsCheckpoint moments cells
    → AreMomentsElsewhere ns origin moments
    → All (WasElsewhere ns origin) cells

abbrev pub WalksWereHeld : Type 0
WalksWereHeld =
    (ns : Nodes Cells) (origin : ℕ) (batches : List Batch) (last : Cells)
    → AreMomentsElsewhere ns origin (map (λ b. b.held) batches ++ last ∷ [])
    → All (WasElsewhere ns origin) (walked None batches last)

-- ---- what is read of journals

-- the deeds that take these cells, in order, each of a moment of its own
abbrev pub takes_of : ℕ → List (Moment × CellName) → List Deed
takes_of origin cells = map (λ c. took origin c.0 c.1) cells

-- a node that held this took these cells, in order
pub record AreTaken (s : Layout) (deeds : List Deed) (origin : ℕ) (had : Cells) (es : List NamedCell) : Type 0 where
  pub cells : List (Moment × CellName)
  pub names : map (λ c. c.1) cells ≡ map (λ e. e.0) es
  pub then : held_at (after_all cell_model s (deeds ++ takes_of origin cells)) (now_at origin)
      ≡ Some (join_cells s had es)

-- whatever cells a node reads from the journals of others, cut anywhere, read twice or in any order, are taken by deeds
abbrev pub ReadCellsAreDeeds : Type 0
ReadCellsAreDeeds =
    (s : Layout) (deeds : List Deed) (origin : ℕ) (had : Cells) (es : List NamedCell)
    → held_at (after_all cell_model s deeds) (now_at origin) ≡ Some had
    → All (WasElsewhere (after_all cell_model s deeds) origin) es
    → AreTaken s deeds origin had es

-- and these deeds are what a keeper that joins the cells does, each from some map
abbrev pub ReadCellsAreAKeepers : Type 0
ReadCellsAreAKeepers =
    (opening : List Op) (k : KeeperState) (n : Node Cells) (cells : List (Cell × Cells))
    → All (λ c. get c.1 (owned_cell c.0).0 ≡ Some c.0.contribution) cells → IsNode opening k n
    → IsNode opening (with_joined k (map (λ c. c.0) cells))
    (fold (λ o c. taken cell_model k.schema k.origin o c.1 (owned_cell c.0).0) n cells)

-- a cell as a desk other than that of an origin had it after some of its operations
pub record WasAtADesk (s : Layout) (ds : Desks) (origin : ℕ) (c : Cell) : Type 0 where
  pub there : ℕ
  pub other : there ≢ origin
  pub list : List Op
  pub begun : HasBegun ds there list
  pub cell : get (outcome_of s list) (owned_cell c).0 ≡ Some c.contribution

-- so among several desks they are calls
abbrev pub ReadCellsAreJoins : Type 0
ReadCellsAreJoins =
    (s : Layout) (ds : Desks) (origin : ℕ) (d : Desk) (cells : List Cell) → get ds origin ≡ Some d
    → All (WasAtADesk s ds origin) cells
    → (calls : List Call) × Leave s ds origin d calls (with_joined d.keeper cells)

-- ---- who has read a journal up to a place

-- a node holds all that it held at any moment
abbrev pub NodesOnlyAdd : Type 0
NodesOnlyAdd =
    (s : Layout) (deeds : List Deed) (origin ago : ℕ) (m x : Cells) → IsLayout s
    → held_at (after_all cell_model s deeds) (record { origin = origin; ago = ago }) ≡ Some m
    → held_at (after_all cell_model s deeds) (now_at origin) ≡ Some x
    → Holds s x m

-- the live marks of what was known at a moment are among those that the node of an origin knows
pub record KnowsAll (s : Layout) (deeds : List Deed) (origin : ℕ) (there : Moment) : Type 0 where
  pub known : Knowledge
  pub is_known : held_at (after_all sample_model s deeds) (now_at origin) ≡ Some known
  pub given : Knowledge
  pub is_given : held_at (after_all sample_model s deeds) there ≡ Some given
  pub marks : live s known ≡ live s (union known given)

-- so it is if the node holds all that was held then, and it answers from these samples too
abbrev pub HoldersKnowAll : Type 0
HoldersKnowAll =
    (s : Layout) (deeds : List Deed) (origin : ℕ) (there : Moment) (m x : Cells) → IsLayout s
    → held_at (after_all cell_model s deeds) there ≡ Some m
    → held_at (after_all cell_model s deeds) (now_at origin) ≡ Some x → Holds s x m
    → KnowsAll s deeds origin there

-- among these deeds the node of an origin took a cell
pub record HasTaken (s : Layout) (deeds : List Deed) (origin : ℕ) (e : NamedCell) : Type 0 where
  pub before : List Deed
  pub there : Moment
  pub later : List Deed
  pub among : deeds ≡ before ++ took origin there e.0 ∷ later
  pub node : Node Cells
  pub here : get (after_all cell_model s before) origin ≡ Some node
  pub held : Cells
  pub was : held_at (after_all cell_model s before) there ≡ Some held
  pub cell : get held e.0 ≡ Some e.1

-- whatever else was done at a node, in whatever order, it holds the join of all cells that it took
abbrev pub TakenAreHeld : Type 0
TakenAreHeld =
    (s : Layout) (deeds : List Deed) (origin : ℕ) (x : Cells) (es : List NamedCell) → IsLayout s
    → held_at (after_all cell_model s deeds) (now_at origin) ≡ Some x → All (HasTaken s deeds origin) es
    → Holds s x (join_cells s empty es)

-- so a node that has taken each cell of a journal from its beginning up to a write holds all that was held at that
-- write
abbrev pub JournalsBringAll : Type 0
JournalsBringAll =
    (s : Layout) (deeds : List Deed) (origin : ℕ) (x : Cells) (writes : List Write) → IsLayout s
    → held_at (after_all cell_model s deeds) (now_at origin) ≡ Some x → AreWrites s empty writes
    → All (HasTaken s deeds origin) (written_cells writes)
    → Holds s x (last_cells empty writes)

-- and so does one that has taken each of a checkpoint, and of the journal from the checkpoint's first moment on
abbrev pub CheckpointedBringAll : Type 0
CheckpointedBringAll =
    (s : Layout) (deeds : List Deed) (origin : ℕ) (m x : Cells) (moments : List Cells) (cells : List NamedCell)
    (writes : List Write) → IsLayout s → held_at (after_all cell_model s deeds) (now_at origin) ≡ Some x
    → IsTrimmed s m → AreWrites s m writes → AreFrom s m moments → IsCheckpoint moments cells
    → All (HasTaken s deeds origin) (cells ++ written_cells writes)
    → Holds s x (last_cells m writes)

abbrev pub WalkedBringAll : Type 0
WalkedBringAll =
    (s : Layout) (deeds : List Deed) (origin : ℕ) (m x : Cells) (batches : List Batch) (last : Cells)
    (writes : List Write) → IsLayout s → held_at (after_all cell_model s deeds) (now_at origin) ≡ Some x
    → IsTrimmed s m → AreWrites s m writes → GoesForward s m batches last
    → All (HasTaken s deeds origin) (walked None batches last ++ written_cells writes)
    → Holds s x (last_cells m writes)
