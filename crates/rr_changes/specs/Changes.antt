-- The cells of changed series in the slots of their ranges.
use Rattle.std.specs.Prelude.{◌<◌, ◌≡◌, ◌⊎◌, ℕ, ℤ, int_le, nat_eq, Bool, true, ◌&&◌, ◌||◌, List, [], ◌∷◌, fold, length, take, Option, Some}
use Rattle.std.specs.Borrow.{Bor}
use Rattle.std.specs.Cmp.Lexicographic.{pointwise}
use Rattle.std.specs.FinMap.{get, retain_keys}
use Rattle.std.specs.List.{filter, list_any}
use Rattle.std.specs.Option.{option_map}
use Rattle.rr_schema.specs.Schema.{Layout, slot_of}
use Rattle.rr_contrib.specs.declared.contribution.Contribution.{Contribution}
use Rattle.rr_cells.specs.Cells.{Cells}
use Rattle.rr_cells.specs.declared.cell.Cell.{Cell}
use Rattle.rr_cells.specs.declared.op.Op.{Op}
use Rattle.rr_cells.specs.CellNames.{CellName}
use Rattle.rr_cells.specs.CellBounds.{NamedCell}
use Rattle.rr_cells.specs.Listing.{owned_cell}
use Rattle.rr_cells.specs.Operations.{op_key, step}
use Rattle.rr_cells.specs.ReplicaState.{ReplicaState}
use Rattle.rr_delta.specs.Summaries.{cells_after}
use Rattle.rr_changes.specs.declared.changed_series.ChangedSeries.{ChangedSeries}
use Rattle.rr_changes.specs.declared.time_range.TimeRange.{TimeRange}
use Rattle.rr_changes.specs.declared.time_range.ChangeTimes.{ChangeTimes}
use Rattle.rr_changes.specs.ChangeTimes.{is_in_times}
use Rattle.rr_changes.specs.Updates.{Write, op_time}

-- ---- cells within ranges

-- whether a slot of an archive is that of a time in the range
abbrev pub is_slot_in_range : Layout → ℕ → TimeRange → ℤ → Bool
is_slot_in_range s archive p slot = int_le (slot_of s archive p.first) slot && int_le slot (slot_of s archive p.last)

abbrev pub is_slot_in_times : Layout → ℕ → ChangeTimes → ℤ → Bool
is_slot_in_times s archive ps slot = is_slot_in_range s archive ps.recent slot || is_slot_in_range s archive ps.late slot

-- whether a cell is of this series, in a slot of its ranges
abbrev pub is_cell_in : Layout → ChangedSeries → CellName → Bool
is_cell_in s series n = pointwise nat_eq n.key series.key && is_slot_in_times s n.archive series.times n.slot

-- whether a cell is of one of these series, in a slot of its ranges
abbrev pub is_within : Layout → List ChangedSeries → CellName → Bool
is_within s series n = list_any (λ own. is_cell_in s own n) series

-- all such cells among these
abbrev pub changes_among : Layout → List ChangedSeries → List NamedCell → List NamedCell
changes_among s series es = filter (λ e. is_within s series e.0) es

-- each cell is of one of the archives of a schema
abbrev pub HasArchivesOf : Layout → Cells → Type 0
HasArchivesOf s m = (n : CellName) (c : Contribution) → get m n ≡ Some c → n.archive < length s.archives

-- ---- operations within ranges

-- whether an operation is of this series, at a time in its ranges
abbrev pub is_op_in : ChangedSeries → Op → Bool
is_op_in series op = pointwise nat_eq (op_key op) series.key && is_in_times series.times (op_time op)

-- whether an operation is of one of these series, at a time in its ranges
abbrev pub is_covered : List ChangedSeries → Op → Bool
is_covered series op = list_any (λ own. is_op_in own op) series

-- each operation is covered, or changes no cell of the replica when its turn comes
abbrev pub AreCovered : List ChangedSeries → ReplicaState → List Op → Type 0
AreCovered series h [] = Unit {0}
AreCovered series h (op ∷ ops) =
    ((is_covered series op ≡ true) ⊎ ((step h op).cells ≡ h.cells)) × AreCovered series (step h op) ops

-- ---- one write after the other

-- the operations from one write to the next, and the series that have changed by then
pub record Period : Type 0 where
  pub ops : List Op
  pub series : List ChangedSeries

-- the operations of each are covered by its series
abbrev pub ArePeriods : ReplicaState → List Period → Type 0
ArePeriods h [] = Unit {0}
ArePeriods h (p ∷ later) = AreCovered p.series h p.ops × ArePeriods (fold step h p.ops) later

-- at the end of each the cells within the ranges are written
abbrev pub writes_of : ReplicaState → List Period → List Write
writes_of h [] = []
writes_of h (p ∷ later) = record {
  cells = (fold step h p.ops).cells;
  update = retain_keys (fold step h p.ops).cells (is_within h.schema p.series);
} ∷ writes_of (fold step h p.ops) later

-- ---- a number of cells at a time

-- the name of a cell, if there is one
abbrev pub name_in : Option (Bor Cell) → Option CellName
name_in after = option_map (λ c. (owned_cell c.now).0) after

-- the first of these cells after a name, at most as many as a limit
abbrev pub next_of : ℕ → Option CellName → List NamedCell → List NamedCell
next_of limit after es = take limit (cells_after after es)

-- the name of the last of these cells, or another name if there are none
abbrev pub last_name : Option CellName → List NamedCell → Option CellName
last_name other [] = other
last_name other (e ∷ es) = last_name (Some e.0) es
