-- The laws of checkpoints, each the contract of a function of `src/laws/checkpoints.rt`.
use Rattle.std.specs.Prelude.{◌≡◌, ℕ, List, ◌∷◌, ◌++◌, map, None, Some, All, Contains}
use Rattle.std.specs.List.{flat_map}
use Rattle.std.specs.FinMap.{empty, get}
use Rattle.rr_schema.specs.Schema.{Layout, IsLayout}
use Rattle.rr_contrib.specs.declared.contribution.Contribution.{Contribution}
use Rattle.rr_cells.specs.CellNames.{CellName}
use Rattle.rr_cells.specs.CellBounds.{NamedCell}
use Rattle.rr_cells.specs.Cells.{Cells, IsTrimmed}
use Rattle.rr_cells.specs.Joins.{join_cells}
use Rattle.rr_changes.specs.Updates.{Holds, Write, AreWrites, last_cells, written_cells}
use Rattle.rr_changes.specs.Checkpoints.{AreFrom, AreUpTo, WasHeld, IsCheckpoint, Batch, walked, GoesForward, Read, AreReads, batches_of, end_of}

-- ---- key by key, each key at a moment of its own

-- joining all cells of a checkpoint and all that was written since its first moment, in any order, any number of times
-- and with other cells, gives all the cells of the last write, even if keys were read later than that
abbrev pub CheckpointsBringAll : Type 0
CheckpointsBringAll =
    (s : Layout) (m x : Cells) (writes : List Write) (moments : List Cells) (cells es : List NamedCell) → IsLayout s
    → IsTrimmed s m → AreWrites s m writes → AreFrom s m moments → IsCheckpoint moments cells → IsTrimmed s x
    → All (Contains es) (cells ++ written_cells writes)
    → Holds s (join_cells s x es) (last_cells m writes)

-- and from an empty map, with no other cells, gives only cells that were held at one of the moments, or at a write
abbrev pub CheckpointsBringWhatWasHeld : Type 0
CheckpointsBringWhatWasHeld =
    (s : Layout) (m : Cells) (writes : List Write) (moments : List Cells) (cells es : List NamedCell) (n : CellName)
    (c : Contribution) → IsLayout s → AreWrites s m writes → IsCheckpoint moments cells
    → All (Contains (cells ++ written_cells writes)) es → get (join_cells s empty es) n ≡ Some c
    → WasHeld (moments ++ map (λ w. w.cells) writes) n c

-- so if all keys were read before the last write, it gives exactly the cells of that
abbrev pub CheckpointsMakeTheLast : Type 0
CheckpointsMakeTheLast =
    (s : Layout) (m : Cells) (writes : List Write) (moments : List Cells) (cells es : List NamedCell) → IsLayout s
    → IsTrimmed s m → AreWrites s m writes → AreFrom s m moments → AreUpTo s (last_cells m writes) moments
    → IsCheckpoint moments cells → All (Contains es) (cells ++ written_cells writes)
    → All (Contains (cells ++ written_cells writes)) es
    → join_cells s empty es ≡ last_cells m writes

-- ---- a limited number of cells at a time, perhaps fewer than a key has

-- so it is with the cells of a walk
abbrev pub WalksBringAll : Type 0
WalksBringAll =
    (s : Layout) (m x : Cells) (writes : List Write) (batches : List Batch) (last : Cells) (es : List NamedCell)
    → IsLayout s → IsTrimmed s m → AreWrites s m writes → GoesForward s m batches last → IsTrimmed s x
    → All (Contains es) (walked None batches last ++ written_cells writes)
    → Holds s (join_cells s x es) (last_cells m writes)

abbrev pub WalksBringWhatWasHeld : Type 0
WalksBringWhatWasHeld =
    (s : Layout) (m : Cells) (writes : List Write) (batches : List Batch) (last : Cells) (es : List NamedCell)
    (n : CellName) (c : Contribution) → IsLayout s → AreWrites s m writes
    → All (Contains (walked None batches last ++ written_cells writes)) es → get (join_cells s empty es) n ≡ Some c
    → WasHeld (map (λ b. b.held) batches ++ last ∷ map (λ w. w.cells) writes) n c

abbrev pub WalksMakeTheLast : Type 0
WalksMakeTheLast =
    (s : Layout) (m : Cells) (writes : List Write) (batches : List Batch) (last : Cells) (es : List NamedCell)
    → IsLayout s → IsTrimmed s m → AreWrites s m writes → GoesForward s m batches last
    → Holds s (last_cells m writes) last → All (Contains es) (walked None batches last ++ written_cells writes)
    → All (Contains (walked None batches last ++ written_cells writes)) es
    → join_cells s empty es ≡ last_cells m writes

-- reading a fixed number of cells at a time, until fewer come, is a walk
abbrev pub ReadsAreAWalk : Type 0
ReadsAreAWalk =
    (limit : ℕ) (reads : List Read) (m : Cells) → AreReads limit None reads
    → flat_map (λ r. r.cells) reads ≡ walked None (batches_of limit reads) (end_of m reads)
