-- The laws of ranges and of the changes within them, each the contract of a function of `src/laws.rt`.
use Rattle.std.specs.Prelude.{All, Contains, ◌≡◌, ◌≢◌, ◌++◌, ◌∷◌, [], true, ℕ, ℤ, List, fold, slice_get, Some}
use mathlib.Core.List.{IsPrefix}
use Rattle.std.specs.FinMap.{entries, retain_keys}
use Rattle.rr_schema.specs.Schema.{Layout}
use Rattle.rr_cells.specs.Cells.{Cells}
use Rattle.rr_cells.specs.declared.op.Op.{Op}
use Rattle.rr_cells.specs.Joins.{join_cells}
use Rattle.rr_cells.specs.ReplicaState.{ReplicaState}
use Rattle.rr_cells.specs.Operations.{op_key, step}
use Rattle.rr_changes.specs.declared.changed_series.ChangedSeries.{ChangedSeries}
use Rattle.rr_changes.specs.declared.time_range.ChangeTimes.{ChangeTimes}
use Rattle.rr_changes.specs.Updates.{AreWrites, GoesOn, IsUpdate, op_time}
use Rattle.rr_changes.specs.ChangeTimes.{is_in_times, with_time}
use Rattle.rr_changes.specs.Tracking.{ChangedState, AreChangedSeries, AreTracked, times_of}
use Rattle.rr_changes.specs.Changes.{AreCovered, ArePeriods, HasArchivesOf, Period, changes_among, is_within, writes_of}
use Rattle.rr_changes.specs.Listing.{changes_of_all}

-- ---- ranges

-- a time that is tracked is in the ranges
abbrev pub TrackedTimesAreIn : Type 0
TrackedTimesAreIn = (near : ℕ) (ps : ChangeTimes) (time : ℤ) → is_in_times (with_time near ps time) time ≡ true

-- and so are all that were
abbrev pub TimesStayIn : Type 0
TimesStayIn = (near : ℕ) (ps : ChangeTimes) (time other : ℤ) → is_in_times ps other ≡ true
    → is_in_times (with_time near ps time) other ≡ true

-- ---- operations that are tracked

-- with one more that is tracked, and with keys added, operations are still tracked
abbrev pub OneMoreIsTracked : Type 0
OneMoreIsTracked =
    (keys more : List (List ℕ)) (c d : ChangedState) (h : ReplicaState) (ops : List Op) (op : Op) (i : ℕ)
    → IsPrefix keys more → slice_get more i ≡ Some (op_key op)
    → times_of d i ≡ with_time c.near (times_of c i) (op_time op)
    → ((j : ℕ) → j ≢ i → times_of d j ≡ times_of c j)
    → AreTracked keys c h ops → AreTracked more d h (ops ++ op ∷ [])

-- so they are with one more that changes no cell, which needn't be tracked
abbrev pub UnchangingNeedsNoTracking : Type 0
UnchangingNeedsNoTracking =
    (keys more : List (List ℕ)) (c d : ChangedState) (h : ReplicaState) (ops : List Op) (op : Op) → IsPrefix keys more
    → ((j : ℕ) → times_of d j ≡ times_of c j) → (step (fold step h ops) op).cells ≡ (fold step h ops).cells
    → AreTracked keys c h ops → AreTracked more d h (ops ++ op ∷ [])

-- operations that are tracked are covered by the list of changed series
abbrev pub TrackedOperationsAreCovered : Type 0
TrackedOperationsAreCovered =
    (keys : List (List ℕ)) (c : ChangedState) (series : List ChangedSeries) (h : ReplicaState) (ops : List Op)
    → AreChangedSeries keys c.times series → AreTracked keys c h ops → AreCovered series h ops

-- ---- cells within ranges

-- if all operations since a moment are covered, the cells within the ranges are an update since then
abbrev pub CoveredCellsAreAnUpdate : Type 0
CoveredCellsAreAnUpdate =
    (h : ReplicaState) (ops : List Op) (series : List ChangedSeries) → GoesOn h
    → AreCovered series h ops
    → IsUpdate h.cells (fold step h ops).cells (retain_keys (fold step h ops).cells (is_within h.schema series))

-- so joining those within the ranges, one by one, to the earlier cells makes the current ones
abbrev pub CoveredCellsMakeTheCells : Type 0
CoveredCellsMakeTheCells =
    (h : ReplicaState) (ops : List Op) (series : List ChangedSeries) → GoesOn h
    → AreCovered series h ops
    → join_cells h.schema h.cells (changes_among h.schema series (entries (fold step h ops).cells))
    ≡ (fold step h ops).cells

-- so what is written at the end of each period makes writes, one after the other
abbrev pub PeriodsAreWrites : Type 0
PeriodsAreWrites = (h : ReplicaState) (periods : List Period) → GoesOn h → ArePeriods h periods
    → AreWrites h.schema h.cells (writes_of h periods)

-- listed archive by archive, the changes of these series are the same cells, in another order
abbrev pub ListedChangesAreTheSame : Type 0
ListedChangesAreTheSame =
    (s : Layout) (m : Cells) (series : List ChangedSeries) → HasArchivesOf s m
    → All (Contains (changes_of_all s m series)) (changes_among s series (entries m))
    × All (Contains (changes_among s series (entries m))) (changes_of_all s m series)

-- so joining them, one by one, to the earlier cells makes the current ones too
abbrev pub ListedChangesMakeTheCells : Type 0
ListedChangesMakeTheCells =
    (h : ReplicaState) (ops : List Op) (series : List ChangedSeries) → GoesOn h → AreCovered series h ops
    → HasArchivesOf h.schema (fold step h ops).cells
    → join_cells h.schema h.cells (changes_of_all h.schema (fold step h ops).cells series) ≡ (fold step h ops).cells

-- so they do if each operation since then is tracked, by the number of its series, and these series are asked for
abbrev pub TrackedChangesMakeTheCells : Type 0
TrackedChangesMakeTheCells =
    (h : ReplicaState) (ops : List Op) (keys : List (List ℕ)) (c : ChangedState) (series : List ChangedSeries)
    → GoesOn h → AreTracked keys c h ops → AreChangedSeries keys c.times series
    → HasArchivesOf h.schema (fold step h ops).cells
    → join_cells h.schema h.cells (changes_of_all h.schema (fold step h ops).cells series) ≡ (fold step h ops).cells
