-- The laws of knowledge, each the contract of a function of `src/laws.rt`.
use Rattle.std.specs.Prelude.{◌≡◌, ◌≢◌, ℕ, ℤ, List, Bool, IsTrue, IsFalse}
use Rattle.std.specs.FinMap.{empty}
use Rattle.rr_schema.specs.declared.consolidation.ConsolidationFunction.{ConsolidationFunction}
use Rattle.rr_schema.specs.Schema.{Layout, IsLayout}
use Rattle.rr_cells.specs.CellNames.{CellName}
use Rattle.rr_cells.specs.Samples.{Sample, Mark, marks_of}
use Rattle.rr_cells.specs.Knowledge.{Knowledge, knows, union, with_marks, is_live_in, live, names, cells_where, cells_named, difference}
use Rattle.rr_cells.specs.World.{World, with_sample, IsNext, IsClosed, HoldsAllOf}
use Rattle.rr_cells.specs.Rows.{row}
use Rattle.rr_cells.specs.FetchText.{Request, fetch_text}

abbrev pub UnionIsCommutative : Type 0
UnionIsCommutative = (k l : Knowledge) → union k l ≡ union l k

abbrev pub UnionIsAssociative : Type 0
UnionIsAssociative = (j k l : Knowledge) → union (union j k) l ≡ union j (union k l)

abbrev pub UnionIsIdempotent : Type 0
UnionIsIdempotent = (k : Knowledge) → union k k ≡ k

-- an empty knowledge is closed
abbrev pub NothingIsClosed : Type 0
NothingIsClosed = (s : Layout) (w : World) → IsClosed s w empty

-- a writer that holds all marks of its own origin stays closed as it writes the next sample
abbrev pub WriterStaysClosed : Type 0
WriterStaysClosed = (s : Layout) (w : World) (k : Knowledge) (x : Sample) → IsLayout s → IsClosed s w k → IsNext w x
    → HoldsAllOf s w k x.origin → IsClosed s (with_sample w x) (with_marks k (marks_of s x))

-- and still holds all marks of its origin
abbrev pub WriterHoldsOwn : Type 0
WriterHoldsOwn = (s : Layout) (w : World) (k : Knowledge) (x : Sample) → HoldsAllOf s w k x.origin
    → HoldsAllOf s (with_sample w x) (with_marks k (marks_of s x)) x.origin

-- the others, which don't know the sample, stay closed too
abbrev pub OthersStayClosed : Type 0
OthersStayClosed = (s : Layout) (w : World) (k : Knowledge) (x : Sample) → IsClosed s w k → IsNext w x
    → IsClosed s (with_sample w x) k

-- and still hold all marks of another origin, if they did
abbrev pub OthersHoldOwn : Type 0
OthersHoldOwn = (s : Layout) (w : World) (k : Knowledge) (x : Sample) (origin : ℕ) → origin ≢ x.origin
    → HoldsAllOf s w k origin → HoldsAllOf s (with_sample w x) k origin

-- a union of closed knowledges is closed
abbrev pub UnionIsClosed : Type 0
UnionIsClosed = (s : Layout) (w : World) (k l : Knowledge) → IsLayout s → IsClosed s w k → IsClosed s w l
    → IsClosed s w (union k l)

-- and holds all marks of an origin if the first of them does
abbrev pub UnionHoldsOwn : Type 0
UnionHoldsOwn = (s : Layout) (w : World) (k l : Knowledge) (origin : ℕ) → HoldsAllOf s w k origin
    → HoldsAllOf s w (union k l) origin

-- a cell that is past the horizon of a knowledge is past that of each one that knows as much
abbrev pub DeadStayDead : Type 0
DeadStayDead =
    (s : Layout) (k l : Knowledge) (n : CellName) → IsLayout s → ((m : Mark) → IsTrue (knows k m) → IsTrue (knows l m))
    → IsFalse (is_live_in s k n)
    → IsFalse (is_live_in s l n)

-- whole cells of a closed knowledge are closed
abbrev pub WholeCellsAreClosed : Type 0
WholeCellsAreClosed = (s : Layout) (w : World) (k : Knowledge) (test : CellName → Bool) → IsClosed s w k
    → IsClosed s w (cells_where s k test)

-- and so are its live marks
abbrev pub LiveIsClosed : Type 0
LiveIsClosed = (s : Layout) (w : World) (k : Knowledge) → IsClosed s w k → IsClosed s w (live s k)

-- whole cells of a knowledge are live among themselves
abbrev pub WholeCellsAreLive : Type 0
WholeCellsAreLive = (s : Layout) (k : Knowledge) (test : CellName → Bool) → IsLayout s
    → live s (cells_where s k test) ≡ cells_where s k test

-- and so are its live marks
abbrev pub LiveIsLive : Type 0
LiveIsLive = (s : Layout) (k : Knowledge) → IsLayout s → live s (live s k) ≡ live s k

-- the whole cells of all its names are all its live marks
abbrev pub NamesAreOfTheLive : Type 0
NamesAreOfTheLive = (s : Layout) (k : Knowledge) → cells_named s k (names s k) ≡ live s k

-- adding the cells of the difference gives the same live marks as adding all
abbrev pub DifferenceBringsAll : Type 0
DifferenceBringsAll = (s : Layout) (k l : Knowledge) → IsLayout s
    → live s (union l (cells_named s k (difference s k l))) ≡ live s (union l k)

-- two knowledges with the same live marks have the same rows
abbrev pub RowsAreOfTheLive : Type 0
RowsAreOfTheLive = (s : Layout) (k l : Knowledge) (key : List ℕ) (archive : ℕ) (slot : ℤ) (f : ConsolidationFunction)
    → live s k ≡ live s l → row s k key archive slot f ≡ row s l key archive slot f

-- and give the same answer to each fetch
abbrev pub FetchesAreOfTheLive : Type 0
FetchesAreOfTheLive = (s : Layout) (k l : Knowledge) (q : Request) → live s k ≡ live s l
    → fetch_text s k q ≡ fetch_text s l q

-- so the live marks alone give the same answer as all that is known
abbrev pub LiveAnswersAlike : Type 0
LiveAnswersAlike = (s : Layout) (k : Knowledge) (q : Request) → IsLayout s
    → fetch_text s (live s k) q ≡ fetch_text s k q
