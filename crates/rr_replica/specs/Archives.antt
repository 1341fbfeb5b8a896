-- The archives of one key, each seen as a map by a function, and how operations change them.
use Rattle.std.specs.Prelude.{◌≡◌, ◌≢◌, ℕ, ℤ, ◌≤◌, Bool, IsTrue, List, map, length, Some, slice_get, FitsSigned, Result, IsOk, OnErr, OnOk}
use Rattle.std.specs.declared.alloc.AllocError.{AllocError}
use Rattle.std.specs.FinMap.{get}
use Rattle.std.specs.Int.{w64}
use Rattle.rr_text.specs.declared.limits.TheConstants.{MAX_NUMBER}
use Rattle.rr_schema.specs.Schema.{Layout, IsLayout, archive_at, slot_of, place_of}
use Rattle.rr_contrib.specs.Contributions.{SlotSample, slot_sample}
use Rattle.rr_contrib.specs.Validity.{CanAdd}
use Rattle.std.specs.Prelude.{IfSome}
use Rattle.rr_archive.specs.CellSlots.{CellSlot, cell_slot}
use Rattle.rr_archive.specs.Cells.{ArchiveCells, put_in_archive, join_cell}
use Rattle.rr_replica.specs.declared.unkeyed_sample.UnkeyedSample.{UnkeyedSample}
use Rattle.rr_cells.specs.declared.cell.Cell.{Cell}
use Rattle.rr_cells.specs.declared.op.Op.{Op}
use Rattle.rr_cells.specs.declared.op.Op.TheVariants.{Put, Join}
use Rattle.rr_cells.specs.CellBounds.{IsCellOf}
use Rattle.rr_cells.specs.Listing.{owned_cell}

-- where the sample falls in an archive
abbrev pub cell_slot_for : Layout → UnkeyedSample → ℕ → CellSlot
cell_slot_for s x archive = cell_slot (slot_of s archive x.time) x.origin

-- the sample, as the slot of an archive sees it
abbrev pub sample_for : Layout → UnkeyedSample → ℕ → SlotSample
sample_for s x archive = slot_sample x.number (place_of s archive x.time) x.time x.value

-- a sample that is put has a time of 64 bits and a number from 1 to 2^40, and a cell that is joined is one of the
-- schema's
abbrev pub IsOpOf : Layout → Op → Type 0
IsOpOf s (Put x) = FitsSigned w64 x.time × (1 ≤ x.number) × (x.number ≤ MAX_NUMBER)
IsOpOf s (Join c) = IsCellOf s (owned_cell c)

module _ {X : Type 0} where
  -- each two archives with the same number in both lists are related so
  abbrev pub EachPair : (ℕ → X → X → Type 0) → List X → List X → Type 0
  EachPair R old new = (i : ℕ) (a b : X) → slice_get old i ≡ Some a → slice_get new i ≡ Some b → R i a b

  abbrev pub Each : (ℕ → X → Type 0) → List X → Type 0
  Each P archives = (i : ℕ) (a : X) → slice_get archives i ≡ Some a → P i a

  -- each archive keeps as many rows as the layout says
  abbrev pub AreSized : (X → ℕ) → Layout → List X → Type 0
  AreSized limit s archives = map limit archives ≡ map (λ a. a.rows) s.archives

  -- archives of a layout, one for each of its archives
  pub record AreOf (limit : X → ℕ) (s : Layout) (archives : List X) : Type 0 where
    pub layout : IsLayout s
    pub sized : AreSized limit s archives

  -- in each archive, the sample can be added to the cell that it falls in, if there is one
  abbrev pub CanTake : (X → ArchiveCells) → Layout → UnkeyedSample → List X → Type 0
  CanTake cells s x archives = Each (λ i a. IfSome (get (cells a) (cell_slot_for s x i)) (CanAdd x.number)) archives

  -- each archive, from the one with this number on, has room for a sample of this time and origin
  abbrev pub AreReadyFrom : ℕ → (X → CellSlot → Bool) → Layout → ℤ → ℕ → List X → Type 0
  AreReadyFrom first is_ready s time origin archives =
      Each (λ i a. first ≤ i → IsTrue (is_ready a (cell_slot (slot_of s i time) origin))) archives

  -- the archives of its key have room for an operation
  abbrev pub HaveRoomFor : (X → CellSlot → Bool) → Layout → Op → List X → Type 0
  HaveRoomFor is_ready s (Put x) archives = AreReadyFrom 0 is_ready s x.time x.origin archives
  HaveRoomFor is_ready s (Join c) archives = (a : X) → slice_get archives c.archive ≡ Some a
      → IsTrue (is_ready a (cell_slot c.slot c.origin))

  -- as many archives, with the same cells
  pub record AreSame (cells : X → ArchiveCells) (old new : List X) : Type 0 where
    pub many : length new ≡ length old
    pub each : EachPair (λ i a b. cells b ≡ cells a) old new

  -- as many archives, each with the sample put
  pub record HavePut (cells : X → ArchiveCells) (s : Layout) (x : UnkeyedSample) (old new : List X) : Type 0 where
    pub many : length new ≡ length old
    pub each : EachPair (λ i a b. cells b ≡ put_in_archive (archive_at s i).rows (cells a) (cell_slot_for s x i)
        (sample_for s x i)) old new

  -- as many archives, with the cell joined into its own
  pub record HaveJoined (cells : X → ArchiveCells) (limit : X → ℕ) (c : Cell) (old new : List X) : Type 0 where
    pub many : length new ≡ length old
    pub here : (a b : X) → slice_get old c.archive ≡ Some a → slice_get new c.archive ≡ Some b
        → cells b ≡ join_cell (limit a) (cells a) (cell_slot c.slot c.origin) c.contribution
    pub others : EachPair (λ i a b. i ≢ c.archive → cells b ≡ cells a) old new

  -- archives of a layout, and a sample that can be added to each of them
  pub record SuitsUnkeyed (cells : X → ArchiveCells) (limit : X → ℕ) (s : Layout) (x : UnkeyedSample)
      (archives : List X)
      : Type 0 where
    pub of_schema : AreOf limit s archives
    pub newer : CanTake cells s x archives

  -- an operation of a layout, and archives of it
  pub record SuitsArchives (limit : X → ℕ) (s : Layout) (op : Op) (archives : List X) : Type 0 where
    pub of_schema : AreOf limit s archives
    pub op_of : IsOpOf s op

  -- the cell was joined into its archive, or memory ran out and it wasn't; if there was room, memory doesn't run out
  pub record TakeCell (cells : X → ArchiveCells) (limit : X → ℕ) (is_ready : X → CellSlot → Bool) (s : Layout)
      (c : Cell) (old new : List X) (result : Result (Unit {0}) AllocError) : Type 0 where
    pub joined : OnOk result (HaveJoined cells limit c old new)
    pub unchanged : OnErr result (AreSame cells old new)
    pub of_schema : AreOf limit s new
    pub room : HaveRoomFor is_ready s (Join c) old → IsOk result

  -- room for an operation was made, unless memory ran out, and no cell changed
  pub record MakeRoom (cells : X → ArchiveCells) (limit : X → ℕ) (is_ready : X → CellSlot → Bool) (s : Layout) (op : Op)
      (old new : List X) (result : Result (Unit {0}) AllocError) : Type 0 where
    pub unchanged : AreSame cells old new
    pub of_schema : AreOf limit s new
    pub room : OnOk result (HaveRoomFor is_ready s op new)

  -- each took a sample, or memory ran out and none did; if there was room for it, memory doesn't run out
  pub record TakeSample (cells : X → ArchiveCells) (limit : X → ℕ) (is_ready : X → CellSlot → Bool) (s : Layout)
      (x : UnkeyedSample) (old new : List X) (result : Result (Unit {0}) AllocError) : Type 0 where
    pub put : OnOk result (HavePut cells s x old new)
    pub unchanged : OnErr result (AreSame cells old new)
    pub of_schema : AreOf limit s new
    pub room : AreReadyFrom 0 is_ready s x.time x.origin old → IsOk result
