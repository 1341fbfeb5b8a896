-- What a keeper has not written yet.
use Rattle.std.specs.Prelude.{◌≡◌, ◌≢◌, ◌-◌, ◌^◌, ◌<◌, ◌≤◌, ℕ, Bool, true, not, List, length, take, drop, fold, Some, slice_get}
use Rattle.rr_cells.specs.declared.op.Op.{Op}
use Rattle.rr_cells.specs.declared.op.Op.TheVariants.{Put, Join}
use Rattle.rr_cells.specs.Cells.{Cells}
use Rattle.rr_cells.specs.Listing.{owned_cell}
use Rattle.rr_cells.specs.Operations.{op_key, outcome_of, step}
use Rattle.rr_cells.specs.ReplicaState.{ReplicaState}
use Rattle.rr_changes.specs.ChangeTimes.{with_time}
use Rattle.rr_changes.specs.Tracking.{AreTracked, HasRoom, times_of}
use Rattle.rr_changes.specs.Updates.{GoesOn, is_held, op_time}
use Rattle.rr_desk.specs.declared.unwritten.Unwritten.{Unwritten}

-- whether an operation may change these cells: joining one that is held already doesn't
abbrev pub may_change : Cells → Op → Bool
may_change m (Put x) = true
may_change m (Join c) = not (is_held m (owned_cell c))

-- of these operations, which made this replica, the last ones, as many as are counted, are tracked; the replica before
-- them holds the cells that the others make
pub record IsUnwritten (own : ReplicaState) (keys : List (List ℕ)) (u : Unwritten) (ops : List Op) : Type 0 where
  pub few : u.count ≤ length ops
  pub before : ReplicaState
  pub goes_on : GoesOn before
  pub cells : before.cells ≡ outcome_of own.schema (take (length ops - u.count) ops)
  pub applied : own ≡ fold step before (drop (length ops - u.count) ops)
  pub tracked : AreTracked keys u.tracker before (drop (length ops - u.count) ops)

-- one more operation on the series with a number can be tracked
pub record HasRoomFor (u : Unwritten) (series : ℕ) : Type 0 where
  pub tracker : HasRoom u.tracker series
  pub count : u.count < 2 ^ 64 - 1

-- the same times are tracked for each series
abbrev pub TracksTheSame : Unwritten → Unwritten → Type 0
TracksTheSame old new = (i : ℕ) → times_of new.tracker i ≡ times_of old.tracker i

-- the time of an operation is tracked for the series with a number
pub record Tracks (old new : Unwritten) (series : ℕ) (op : Op) : Type 0 where
  pub here : times_of new.tracker series
      ≡ with_time old.tracker.near (times_of old.tracker series) (op_time op)
  pub others : (i : ℕ) → i ≢ series → times_of new.tracker i ≡ times_of old.tracker i
