-- Updates: parts of a map of cells that have all that was added to it since an earlier moment.
use Rattle.std.specs.Prelude.{◌≡◌, ◌⊎◌, ℤ, ◌<◌, Bool, false, List, [], ◌∷◌, ◌++◌, Option, None, Some}
use Rattle.std.specs.FinMap.{get, entries}
use Rattle.std.specs.Ordering.{is_le}
use Rattle.rr_schema.specs.Schema.{Layout, IsLayout, slot_of}
use Rattle.rr_contrib.specs.declared.contribution.Contribution.{Contribution}
use Rattle.rr_contrib.specs.Contributions.{contribution_cmp}
use Rattle.rr_cells.specs.declared.op.Op.{Op}
use Rattle.rr_cells.specs.declared.op.Op.TheVariants.{Put, Join}
use Rattle.rr_cells.specs.CellNames.{CellName}
use Rattle.rr_cells.specs.CellBounds.{NamedCell}
use Rattle.rr_cells.specs.Cells.{Cells, IsTrimmed}
use Rattle.rr_cells.specs.Joins.{join}
use Rattle.rr_cells.specs.Operations.{op_key}
use Rattle.rr_cells.specs.ReplicaState.{ReplicaState}

-- x holds all that m holds: joining m to it changes nothing
abbrev pub Holds : Layout → Cells → Cells → Type 0
Holds s x m = join s x m ≡ x

-- whether what is at a name is at least this
abbrev pub is_at_least : Option Contribution → Contribution → Bool
is_at_least None c = false
is_at_least (Some d) c = is_le (contribution_cmp c d)

-- whether a cell is held already: there is one with its name that contributes no less
abbrev pub is_held : Cells → NamedCell → Bool
is_held m e = is_at_least (get m e.0) e.1

-- each cell of the update is a current cell, and each current cell is one of before or of the update
pub record IsUpdate (before now update : Cells) : Type 0 where
  pub part : (n : CellName) (c : Contribution) → get update n ≡ Some c → get now n ≡ Some c
  pub whole : (n : CellName) (c : Contribution) → get now n ≡ Some c
      → (get before n ≡ Some c) ⊎ (get update n ≡ Some c)

-- ---- one update after the other

-- the cells at the moment of a write, and the update that was written
pub record Write : Type 0 where
  pub cells : Cells
  pub update : Cells

-- from this map on, the cells of each moment hold those of the one before, and the update has all that was added since
abbrev pub AreWrites : Layout → Cells → List Write → Type 0
AreWrites s m [] = Unit {0}
AreWrites s m (w ∷ later) = Holds s w.cells m × IsUpdate m w.cells w.update × AreWrites s w.cells later

-- the cells at the last of these writes
abbrev pub last_cells : Cells → List Write → Cells
last_cells m [] = m
last_cells m (w ∷ later) = last_cells w.cells later

-- all cells that were written, in order
abbrev pub written_cells : List Write → List NamedCell
written_cells [] = []
written_cells (w ∷ later) = entries w.update ++ written_cells later

-- ---- operations

-- what holds of a replica whose operations only add: its cells are live, and those of its own origin have versions
-- before its next number
pub record GoesOn (h : ReplicaState) : Type 0 where
  pub layout : IsLayout h.schema
  pub live : IsTrimmed h.schema h.cells
  pub own : (n : CellName) (c : Contribution) → get h.cells n ≡ Some c → n.origin ≡ h.origin → c.version < h.next

-- the time of its sample; for a cell that is joined, that of the last sample in it
abbrev pub op_time : Op → ℤ
op_time (Put x) = x.time
op_time (Join c) = c.contribution.last_time

-- the cell is of the operation's key, in the slot of its time
pub record IsPlaceOf (s : Layout) (op : Op) (n : CellName) : Type 0 where
  pub key : n.key ≡ op_key op
  pub slot : n.slot ≡ slot_of s n.archive (op_time op)
