-- Which series changed, by their numbers, and the list of them by their keys.
use Rattle.std.specs.Prelude.{◌≡◌, ◌⊎◌, ℕ, ◌<◌, Bool, true, false, ◌==◌, List, [], ◌∷◌, length, slice_get, Option, None, Some, unwrap_or, All, Contains}
use Rattle.std.specs.List.{list_any}
use Rattle.rr_cells.specs.declared.op.Op.{Op}
use Rattle.rr_cells.specs.Operations.{op_key, step}
use Rattle.rr_cells.specs.ReplicaState.{ReplicaState}
use Rattle.rr_changes.specs.declared.changed_series.ChangedSeries.{ChangedSeries}
use Rattle.rr_changes.specs.declared.time_range.ChangeTimes.{ChangeTimes}
use Rattle.rr_changes.specs.declared.time_range.TheConstants.{UNCHANGED}
use Rattle.rr_changes.specs.ChangeTimes.{is_changed, is_in_times}
use Rattle.rr_changes.specs.Updates.{op_time}

-- how near a time has to be to widen a range, the ranges of each series by its number, and how many more series there
-- is room to list
pub record ChangedState : Type 0 where
  pub near : ℕ
  pub times : List ChangeTimes
  pub room : ℕ

-- the ranges of the series with a number
abbrev pub times_at : List ChangeTimes → ℕ → ChangeTimes
times_at times i = unwrap_or (slice_get times i) UNCHANGED

abbrev pub times_of : ChangedState → ℕ → ChangeTimes
times_of c i = times_at c.times i

-- a change of the series with a number can be tracked
pub record HasRoom (c : ChangedState) (i : ℕ) : Type 0 where
  pub place : i < length c.times
  pub listing : 0 < c.room

-- ---- the list of changed series

abbrev pub is_listed : List ℕ → ℕ → Bool
is_listed changed i = list_any (λ j. j == i) changed

-- exactly the series that have changed are listed
pub record AreListed (times : List ChangeTimes) (changed : List ℕ) : Type 0 where
  pub others : (i : ℕ) → is_listed changed i ≡ false → times_at times i ≡ UNCHANGED
  pub within : (i : ℕ) → is_listed changed i ≡ true → i < length times
  pub moved : (i : ℕ) → is_listed changed i ≡ true → is_changed (times_at times i) ≡ true

-- ---- changed series by their numbers

-- a series that has changed, whose key and ranges are at its number
pub record IsSeriesAt (keys : List (List ℕ)) (times : List ChangeTimes) (i : ℕ) (series : ChangedSeries) : Type 0 where
  pub number : series.number ≡ i
  pub key : slice_get keys i ≡ Some series.key
  pub here : times_at times i ≡ series.times
  pub moved : is_changed series.times ≡ true

-- exactly the series that have changed and have a key
pub record AreChangedSeries (keys : List (List ℕ)) (times : List ChangeTimes) (series : List ChangedSeries) : Type 0 where
  pub part : All (λ own. (i : ℕ) × IsSeriesAt keys times i own) series
  pub whole : (i : ℕ) (own : ChangedSeries) → IsSeriesAt keys times i own → Contains series own

-- the series with a key and a number
abbrev pub series_of : ℕ → ChangeTimes → Option (List ℕ) → List ChangedSeries
series_of i times None = []
series_of i times (Some key) = record { number = i; key = key; times = times } ∷ []

-- the series with a number, if it has a key
abbrev pub numbered_series : List (List ℕ) → ℕ → ChangeTimes → List ChangedSeries
numbered_series keys i times = series_of i times (slice_get keys i)

-- ---- operations

-- an operation is tracked: its time is in the ranges at the number of its series
pub record IsTracked (keys : List (List ℕ)) (c : ChangedState) (op : Op) : Type 0 where
  pub number : ℕ
  pub key : slice_get keys number ≡ Some (op_key op)
  pub time : is_in_times (times_of c number) (op_time op) ≡ true

-- each of these is tracked, or changes no cell of the replica when its turn comes
abbrev pub AreTracked : List (List ℕ) → ChangedState → ReplicaState → List Op → Type 0
AreTracked keys c h [] = Unit {0}
AreTracked keys c h (op ∷ ops) =
    (IsTracked keys c op ⊎ ((step h op).cells ≡ h.cells)) × AreTracked keys c (step h op) ops
