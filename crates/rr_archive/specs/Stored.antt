-- What calls do to what an archive stores, however it is seen.
use Rattle.std.specs.Prelude.{◌≡◌, ℕ, ℤ, ◌<◌, ◌≤◌, Bool, List, [], Option, Result, IfSome, IsFalse, IsOk, IsTrue, OnErr, OnOk, vec_len, vec_capacity}
use Rattle.std.specs.Global.{Vec}
use Rattle.std.specs.FinMap.{get, keys}
use Rattle.std.specs.declared.alloc.AllocError.{AllocError}
use Rattle.rr_text.specs.declared.limits.TheConstants.{MAX_NUMBER, MAX_ROWS, MAX_STEPS}
use Rattle.rr_join.specs.Maps.{trimmed}
use Rattle.rr_join.specs.Horizon.{is_above}
use Rattle.rr_contrib.specs.Validity.{CanAdd}
use Rattle.rr_archive.specs.declared.change.Change.{Change}
use Rattle.rr_archive.specs.declared.entry.Entry.{Entry}
use Rattle.rr_archive.specs.CellSlots.{CellSlot, IsSlot, is_live_at}
use Rattle.rr_archive.specs.Cells.{ArchiveCells, with_change}
use Rattle.rr_archive.specs.Changes.{Fits}
use Rattle.rr_archive.specs.Row.{with_entry, ascends}

-- nothing changed; there is room unless memory ran out, and it doesn't if there was room
pub record MakesRoom {S : Type 0} (had has : Bool) (old new : S) (result : Result (Unit {0}) AllocError) : Type 0 where
  pub same : new ≡ old
  pub room : OnOk result (IsTrue has)
  pub room_suffices : IsTrue had → IsOk result

-- it was changed, or memory ran out and it was not; if there was room, memory doesn't run out
pub record ChangesStored {S T : Type 0} (set : S → S → Type 0) (had : Bool) (old new : S) (result : Result T AllocError)
    : Type 0 where
  pub changed : OnOk result (set old new)
  pub unchanged : OnErr result (new ≡ old)
  pub room : IsTrue had → IsOk result

-- an entry was set, or memory ran out and nothing changed; entries that ascend still do; if there was room for one more
-- entry, memory doesn't run out
pub record SetsEntry {T : Type 0} (e : Entry) (old new : Vec Entry) (result : Result T AllocError) : Type 0 where
  pub changed : OnOk result (new.items ≡ with_entry old.items e)
  pub unchanged : OnErr result (new.items ≡ old.items)
  pub ascend : IsTrue (ascends old.items) → IsTrue (ascends new.items)
  pub room : vec_len old < vec_capacity old → IsOk result

-- how many rows ahead the next one to look at is: at least one, unless `most` is 0, and at most `most`; the rows before
-- it, from the row `from` on, have no entry
pub record PassesOver (from most : ℕ) (row : ℕ → List Entry) (result : ℕ) : Type 0 where
  pub at_least_one : 1 ≤ most → 1 ≤ result
  pub at_most : result ≤ most
  pub empty : (i : ℕ) → from ≤ i → i < result → row i ≡ []

-- ---- the cells of an archive

-- a number of rows that an archive may have
pub record IsRowCount (rows : ℕ) : Type 0 where
  pub rows_at_least : 1 ≤ rows
  pub rows_at_most : rows ≤ MAX_ROWS

-- a sample with this number can be put at a cell slot of an archive with these cells: the slot, its number and its step
-- in the row are within their limits, and it can be added to what the cell knows
pub record CanPut (cells : ArchiveCells) (p : CellSlot) (number step : ℕ) : Type 0 where
  pub slot : IsSlot p.slot
  pub number_at_least : 1 ≤ number
  pub number_at_most : number ≤ MAX_NUMBER
  pub place : step < MAX_STEPS
  pub newer : IfSome (get cells p) (CanAdd number)

-- an archive has the cells and the number of rows that it had
pub record IsSameArchive (was_rows rows : ℕ) (old new : ArchiveCells) : Type 0 where
  pub cells : new ≡ old
  pub limit : rows ≡ was_rows

-- an archive took a sample or a cell at a cell slot, and has these cells; nothing changed if the cell slot is past the
-- horizon or memory ran out; if the archive was ready, memory doesn't run out
pub record ArchiveTakes (p : CellSlot) (made : ArchiveCells) (ready : Bool) (was_rows rows : ℕ) (old new : ArchiveCells)
    (result : Result (Unit {0}) AllocError) : Type 0 where
  pub taken : OnOk result (new ≡ made)
  pub dead : IsFalse (is_live_at was_rows (keys old) p) → new ≡ old
  pub unchanged : OnErr result (new ≡ old)
  pub limit : rows ≡ was_rows
  pub room : IsTrue ready → IsOk result

-- a change that an archive with these cells can take at a cell slot
pub record CanTake (cells : ArchiveCells) (p : CellSlot) (change : Change) : Type 0 where
  pub slot : IsSlot p.slot
  pub fits : Fits (get cells p) change

-- the cell at a cell slot was changed, and only the live cells are left; nothing changed if it is past the horizon or
-- memory ran out; if the archive was ready, memory doesn't run out
pub record ChangesCell (p : CellSlot) (change : Change) (newest : Option ℤ) (ready : Bool) (was_rows rows : ℕ)
    (old new : ArchiveCells) (result : Result (Unit {0}) AllocError) : Type 0 where
  pub changed : OnOk result (new ≡ trimmed (is_live_at was_rows) (with_change old p change))
  pub dead : IsFalse (is_above was_rows newest p.slot) → new ≡ old
  pub unchanged : OnErr result (new ≡ old)
  pub limit : rows ≡ was_rows
  pub room : IsTrue ready → IsOk result
