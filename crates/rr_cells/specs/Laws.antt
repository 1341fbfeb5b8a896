-- The laws of puts and joins, each the contract of a function of `src/laws.rt`.
use Rattle.std.specs.Prelude.{◌≡◌, ◌≢◌, Bool, ℕ, ◌*◌, ◌^◌, ◌<◌, ◌≤◌, unsigned_abs, List, length, map, Some, All, IsFalse, take, drop}
use Rattle.std.specs.Ordering.{eq_by_cmp}
use Rattle.std.specs.FinMap.{get, keys, len, entries, retain_keys}
use Rattle.rr_text.specs.declared.limits.TheConstants.{MAX_ORIGIN}
use Rattle.rr_schema.specs.Schema.{Layout, IsLayout, archive_at, slot_of}
use Rattle.rr_join.specs.Sums.{int_sum}
use Rattle.rr_contrib.specs.declared.contribution.Contribution.{Contribution}
use Rattle.rr_archive.specs.Cells.{put_in_archive, join_archive_cells}
use Rattle.rr_cells.specs.CellNames.{CellName, cell_name_cmp, is_slot_live}
use Rattle.rr_cells.specs.Samples.{Sample, Mark, name_of}
use Rattle.rr_cells.specs.declared.cell.Cell.{Cell}
use Rattle.rr_cells.specs.CellBounds.{NamedCell, IsCellOf, IsSoundSample}
use Rattle.rr_cells.specs.ReplicaState.{ReplicaState}
use Rattle.rr_cells.specs.Joining.{next_past, with_cells}
use Rattle.rr_cells.specs.Operations.{joins_of, outcome_of, AllAccepted}
use Rattle.rr_cells.specs.Cells.{Cells, IsTrimmed, HasOriginsIn, cell_slot_of, archive_cells}
use Rattle.rr_cells.specs.Knowledge.{Knowledge, union, live, cells_where, part, difference}
use Rattle.rr_cells.specs.World.{World, IsWritten, IsClosed}
use Rattle.rr_cells.specs.Puts.{slot_sample_of, put_sample}
use Rattle.rr_cells.specs.Joins.{join, join_cell, join_cells}
use Rattle.rr_cells.specs.State.{cells_of_knowledge}
use Rattle.rr_cells.specs.Versions.{newer_names}

-- the sample in an archive
abbrev pub mark_in : Sample → ℕ → Mark
mark_in x archive = record { sample = x; archive = archive }

-- a put is a put into each archive of the sample's key
abbrev pub PutGoesByArchives : Type 0
PutGoesByArchives =
    (s : Layout) (m : Cells) (x : Sample) (archive : ℕ) → IsLayout s → IsTrimmed s m → archive < length s.archives
    → archive_cells (put_sample s m x) x.key archive
    ≡ put_in_archive (archive_at s archive).rows (archive_cells m x.key archive)
    (cell_slot_of (name_of s (mark_in x archive))) (slot_sample_of s (mark_in x archive))

-- and changes no other key
abbrev pub PutLeavesOtherKeys : Type 0
PutLeavesOtherKeys =
    (s : Layout) (m : Cells) (x : Sample) (key : List ℕ) (archive : ℕ) → IsLayout s → IsTrimmed s m → x.key ≢ key
    → archive_cells (put_sample s m x) key archive ≡ archive_cells m key archive

-- a sample whose slot is past the horizon of an archive leaves no trace there
abbrev pub DeadLeaveNoTrace : Type 0
DeadLeaveNoTrace =
    (s : Layout) (m : Cells) (x : Sample) (archive : ℕ) → IsLayout s → IsTrimmed s m → archive < length s.archives
    → IsFalse (is_slot_live s (keys m) x.key archive (slot_of s archive x.time))
    → archive_cells (put_sample s m x) x.key archive ≡ archive_cells m x.key archive

-- the cells after a put are trimmed
abbrev pub PutIsTrimmed : Type 0
PutIsTrimmed = (s : Layout) (m : Cells) (x : Sample) → IsLayout s → IsTrimmed s m → IsTrimmed s (put_sample s m x)

-- each archive of each key has at most as many live cells as its rows times the origins that have one there
abbrev pub LiveCellsAreFew : Type 0
LiveCellsAreFew =
    (s : Layout) (m : Cells) (key : List ℕ) (archive : ℕ) (origins : List ℕ) → IsLayout s → IsTrimmed s m
    → HasOriginsIn m key archive origins
    → len (archive_cells m key archive) ≤ (archive_at s archive).rows * length origins

-- ---- joins

abbrev pub CellJoinIsCommutative : Type 0
CellJoinIsCommutative = (s : Layout) (m n : Cells) → IsLayout s → join s m n ≡ join s n m

abbrev pub CellJoinIsAssociative : Type 0
CellJoinIsAssociative = (s : Layout) (l m n : Cells) → IsLayout s → join s (join s l m) n ≡ join s l (join s m n)

abbrev pub CellJoinIsIdempotent : Type 0
CellJoinIsIdempotent = (s : Layout) (m : Cells) → IsLayout s → IsTrimmed s m → join s m m ≡ m

-- the cells that a join gives are trimmed
abbrev pub CellJoinIsTrimmed : Type 0
CellJoinIsTrimmed = (s : Layout) (m n : Cells) → IsLayout s → IsTrimmed s (join s m n)

-- a join is a join of each archive of each key
abbrev pub JoinGoesByArchives : Type 0
JoinGoesByArchives =
    (s : Layout) (m n : Cells) (key : List ℕ) (archive : ℕ) → IsLayout s
    → archive_cells (join s m n) key archive ≡ join_archive_cells (archive_at s archive).rows
    (archive_cells m key archive) (archive_cells n key archive)

-- joining the cells of two closed knowledges gives the cells of their union
abbrev pub JoinUnites : Type 0
JoinUnites =
    (s : Layout) (w : World) (k l : Knowledge) → IsLayout s → IsClosed s w k → IsClosed s w l
    → join s (cells_of_knowledge s k) (cells_of_knowledge s l) ≡ cells_of_knowledge s (union k l)

-- joining a map cell by cell is the same as joining it at once
abbrev pub JoinGoesByCells : Type 0
JoinGoesByCells = (s : Layout) (m n : Cells) → IsLayout s → IsTrimmed s m → join_cells s m (entries n) ≡ join s m n

-- joining one cell of a closed knowledge gives the cells of what is known with that cell's marks
abbrev pub JoinCellUnites : Type 0
JoinCellUnites =
    (s : Layout) (w : World) (k l : Knowledge) (n : CellName) (c : Contribution) → IsLayout s → IsClosed s w k
    → IsClosed s w l
    → get (cells_of_knowledge s l) n ≡ Some c
    → join_cell s (cells_of_knowledge s k) n c ≡ cells_of_knowledge s
    (union k (cells_where s l (eq_by_cmp cell_name_cmp n)))

-- ---- whole cells, and differences

-- the cells of a part are those from an offset on, at most a count of them
abbrev pub PartsAreCutFromEntries : Type 0
PartsAreCutFromEntries =
    (s : Layout) (k : Knowledge) (from count : ℕ) → IsLayout s
    → entries (cells_of_knowledge s (part s k from count)) ≡ take count (drop from (entries (cells_of_knowledge s k)))

-- the whole cells of names that pass a test make exactly the cells of these names
abbrev pub WholeCellsMakeTheirCells : Type 0
WholeCellsMakeTheirCells = (s : Layout) (k : Knowledge) (test : CellName → Bool) → IsLayout s
    → cells_of_knowledge s (cells_where s k test) ≡ retain_keys (cells_of_knowledge s k) test

-- the live marks alone make the same cells
abbrev pub LiveMakesTheSame : Type 0
LiveMakesTheSame = (s : Layout) (k : Knowledge) → IsLayout s → cells_of_knowledge s (live s k) ≡ cells_of_knowledge s k

-- so two knowledges with the same live marks make the same cells
abbrev pub StateIsOfTheLive : Type 0
StateIsOfTheLive = (s : Layout) (k l : Knowledge) → IsLayout s → live s k ≡ live s l
    → cells_of_knowledge s k ≡ cells_of_knowledge s l

-- the difference of closed knowledges can be read from the versions
abbrev pub LackIsByVersions : Type 0
LackIsByVersions =
    (s : Layout) (w : World) (k l : Knowledge) → IsLayout s → IsClosed s w k → IsClosed s w l
    → newer_names (cells_of_knowledge s k) (cells_of_knowledge s l) ≡ difference s k l

-- ---- cells of what was written

-- the cells of samples within the limits are cells of the schema
abbrev pub StatesAreValid : Type 0
StatesAreValid = (s : Layout) (w : World) (k : Knowledge) → IsLayout s → IsClosed s w k
    → ((x : Sample) → IsWritten w x → IsSoundSample x) → All (IsCellOf s) (entries (cells_of_knowledge s k))

-- a cell's version is the number of a sample that its origin wrote
abbrev pub VersionsAreNumbers : Type 0
VersionsAreNumbers =
    (s : Layout) (w : World) (k : Knowledge) (n : CellName) (c : Contribution) → IsClosed s w k
    → get (cells_of_knowledge s k) n ≡ Some c
    → (x : Sample) × IsWritten w x × (x.origin ≡ n.origin) × (x.number ≡ c.version)

-- so a next number that is past all that its origin wrote stays the same, whichever of the cells are joined
abbrev pub NextStays : Type 0
NextStays =
    (s : Layout) (w : World) (k : Knowledge) (origin next : ℕ) (es : List NamedCell) → IsClosed s w k
    → ((x : Sample) → IsWritten w x → x.origin ≡ origin → x.number < next)
    → All (λ e. get (cells_of_knowledge s k) e.0 ≡ Some e.1) es → next_past origin next es ≡ next

-- the sums of at most as many cells as there are origins add up to less than 2^119 in magnitude
abbrev pub SumsAreSmall : Type 0
SumsAreSmall = (s : Layout) (es : List NamedCell) → All (IsCellOf s) es → length es ≤ MAX_ORIGIN
    → unsigned_abs (int_sum (map (λ e. e.1.sum) es)) < 2 ^ 119

-- ---- operations

-- joining each cell of a map, from none, makes the map
abbrev pub JoinsMakeTheirCells : Type 0
JoinsMakeTheirCells = (s : Layout) (m : Cells) → IsLayout s → IsTrimmed s m → outcome_of s (joins_of m) ≡ m

-- a replica takes each of these joins, if the cells are of its schema
abbrev pub JoinsAreTaken : Type 0
JoinsAreTaken = (h : ReplicaState) (m : Cells) → All (IsCellOf h.schema) (entries m) → AllAccepted h (joins_of m)

-- ---- joins that were broken off

-- joining the first cells and then the rest is the same as joining them all
abbrev pub JoiningGoesOn : Type 0
JoiningGoesOn = (h : ReplicaState) (cells : List Cell) (n : ℕ)
    → with_cells (with_cells h (take n cells)) (drop n cells) ≡ with_cells h cells
