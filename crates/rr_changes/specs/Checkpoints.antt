-- Checkpoints: cells of a node that were read while it went on, so that they are of different moments.
use Rattle.std.specs.Prelude.{◌≡◌, ◌↔◌, ℕ, nat_lt, MatchBool, List, [], ◌∷◌, ◌++◌, length, Option, Some, All, Contains}
use Rattle.std.specs.FinMap.{get, entries}
use Rattle.rr_schema.specs.Schema.{Layout}
use Rattle.rr_contrib.specs.declared.contribution.Contribution.{Contribution}
use Rattle.rr_cells.specs.CellNames.{CellName}
use Rattle.rr_cells.specs.CellBounds.{NamedCell}
use Rattle.rr_cells.specs.Cells.{Cells}
use Rattle.rr_delta.specs.Summaries.{cells_after}
use Rattle.rr_changes.specs.Changes.{last_name, next_of}
use Rattle.rr_changes.specs.Updates.{Holds}

-- ---- moments

-- each of these was held at a moment or later: it holds all that was held then
abbrev pub AreFrom : Layout → Cells → List Cells → Type 0
AreFrom s first moments = All (λ held. Holds s held first) moments

-- and at a moment or earlier: what is held then holds all of each
abbrev pub AreUpTo : Layout → Cells → List Cells → Type 0
AreUpTo s last moments = All (λ held. Holds s last held) moments

-- a cell was held at one of these moments
abbrev pub WasHeld : List Cells → CellName → Contribution → Type 0
WasHeld moments n c = (held : Cells) × Contains moments held × (get held n ≡ Some c)

-- ---- key by key

-- for a key, these cells are exactly those of a map
abbrev pub AreOf : List ℕ → Cells → List NamedCell → Type 0
AreOf key held cells = (n : CellName) (c : Contribution) → n.key ≡ key
    → Contains cells (n, c) ↔ (get held n ≡ Some c)

-- the cells of each key are exactly those that were held at one of these moments
abbrev pub IsCheckpoint : List Cells → List NamedCell → Type 0
IsCheckpoint moments cells = (key : List ℕ) → (held : Cells) × Contains moments held × AreOf key held cells

-- ---- a limited number of cells at a time

-- a batch of a walk: how many cells it has at most, and what was held when it was read
pub record Batch : Type 0 where
  pub limit : ℕ
  pub held : Cells

-- the cells that a walk reads after a name: in each batch the first after those of the batch before, and at its end all
-- that are left
abbrev pub walked : Option CellName → List Batch → Cells → List NamedCell
walked after [] last = cells_after after (entries last)
walked after (b ∷ batches) last =
    let cells = next_of b.limit after (entries b.held) in cells ++ walked (last_name after cells) batches last

-- time goes on: from this map on, what is held at each batch and at the end holds all that was held before
abbrev pub GoesForward : Layout → Cells → List Batch → Cells → Type 0
GoesForward s m [] last = Holds s last m
GoesForward s m (b ∷ batches) last = Holds s b.held m × GoesForward s b.held batches last

-- ---- as it is read

-- what was held when cells were read, and the cells
pub record Read : Type 0 where
  pub held : Cells
  pub cells : List NamedCell

-- what is read by one call after another, each for a limited number of cells after those of the call before, until
-- fewer come
abbrev pub AreReads : ℕ → Option CellName → List Read → Type 0
AreReads limit after [] = ⊥
AreReads limit after (r ∷ reads) =
    (r.cells ≡ next_of limit after (entries r.held))
    × MatchBool (nat_lt (length r.cells) limit) (reads ≡ []) (AreReads limit (last_name after r.cells) reads)

-- all of them but the last, as batches of a walk
abbrev pub batches_of : ℕ → List Read → List Batch
batches_of limit [] = []
batches_of limit (r ∷ []) = []
batches_of limit (r ∷ q ∷ reads) = record { limit = limit; held = r.held } ∷ batches_of limit (q ∷ reads)

-- what was held at the last of them, where the walk ends; or another map if there are none
abbrev pub end_of : Cells → List Read → Cells
end_of m [] = m
end_of m (r ∷ reads) = end_of r.held reads
