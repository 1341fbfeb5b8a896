-- Cells that a reader gives, one batch after the other, while the keeper goes on.
use Rattle.std.specs.Prelude.{◌≡◌, ◌^◌, ◌≤◌, List, [], ◌∷◌, length, Option, None}
use Rattle.std.specs.List.{flat_map}
use Rattle.std.specs.FinMap.{entries}
use mathlib.Core.List.{IsPrefix}
use Rattle.rr_schema.specs.Schema.{Layout}
use Rattle.rr_cells.specs.declared.op.Op.{Op}
use Rattle.rr_cells.specs.CellNames.{CellName}
use Rattle.rr_cells.specs.CellBounds.{NamedCell}
use Rattle.rr_cells.specs.Operations.{outcome_of}
use Rattle.rr_changes.specs.Changes.{last_name, next_of}
use Rattle.rr_changes.specs.Checkpoints.{Read, AreReads}
use Rattle.rr_desk.specs.ReaderState.{ReaderState}
use Rattle.rr_commit.specs.declared.record.TheConstants.{MAX_RECORD_CELLS}

-- all cells that were read
abbrev pub cells_read : List Read → List NamedCell
cells_read reads = flat_map (λ r. r.cells) reads

-- each was read once these operations or more had been seen, and all that were seen at the read before it; all of those
-- had been seen at the end
abbrev pub AreSeen : Layout → List Op → List Op → List Read → Type 0
AreSeen s from to [] = IsPrefix from to
AreSeen s from to (r ∷ reads) =
    (list : List Op) × IsPrefix from list × (r.held ≡ outcome_of s list) × AreSeen s list to reads

-- each has the next cells after those of the one before
abbrev pub AreNext : Option CellName → List Read → Type 0
AreNext after [] = Unit {0}
AreNext after (r ∷ reads) =
    (r.cells ≡ next_of MAX_RECORD_CELLS after (entries r.held)) × AreNext (last_name after r.cells) reads

-- a reader gave all cells, a record's worth at a time, from the first until fewer came
pub record IsWalk (old new : ReaderState) (reads : List Read) : Type 0 where
  pub whole : AreReads MAX_RECORD_CELLS None reads
  pub seen : AreSeen old.schema old.list new.list reads

-- a reader gave 2^64 cells or more
pub record IsTooLong (old new : ReaderState) : Type 0 where
  pub reads : List Read
  pub next : AreNext None reads
  pub seen : AreSeen old.schema old.list new.list reads
  pub many : 2 ^ 64 ≤ length (cells_read reads)
