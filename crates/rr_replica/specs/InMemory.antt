-- What holds of a replica, by what it has in memory.
use Rattle.std.specs.Prelude.{◌≡◌, ℕ, ◌+◌, Bool, List, map, Option, Some, Result, IsOk, OnErr, OnOk}
use Rattle.std.specs.declared.alloc.AllocError.{AllocError}
use Rattle.std.specs.Global.{Vec}
use Rattle.std.specs.List.Sorted.{IsStrictlySortedBy}
use Rattle.std.specs.Map.{lookup, keys_of}
use Rattle.std.specs.BTreeMap.{is_at}
use Rattle.std.specs.Option.{option_map}
use Rattle.rr_schema.specs.Schema.{Layout, IsLayout}
use Rattle.rr_archive.specs.CellSlots.{CellSlot}
use Rattle.rr_archive.specs.Cells.{ArchiveCells}
use Rattle.rr_cells.specs.Samples as model
use Rattle.rr_replica.specs.declared.unkeyed_sample.UnkeyedSample.{UnkeyedSample}
use Rattle.rr_cells.specs.declared.sample.Sample.{Sample}
use Rattle.rr_cells.specs.declared.cell.Cell.{Cell}
use Rattle.rr_cells.specs.declared.op.Op.{Op}
use Rattle.rr_cells.specs.declared.op.Op.TheVariants.{Put, Join}
use Rattle.rr_cells.specs.Joins.{join_cell}
use Rattle.rr_cells.specs.Listing.{owned_cell}
use Rattle.rr_cells.specs.Puts.{put_sample}
use Rattle.rr_cells.specs.Operations.{sample_of, op_key}
use Rattle.rr_cells.specs.ReplicaState.{ReplicaState, IsReplicaState}
use Rattle.rr_text.specs.Bytes.{bytes_cmp}
use Rattle.rr_replica.specs.Series.{Series, cells_of}
use Rattle.rr_replica.specs.Archives.{AreSized, HaveRoomFor, IsOpOf}

-- a sample without its key, as a sample of a key
abbrev pub sample_of_unkeyed : List ℕ → UnkeyedSample → Sample
sample_of_unkeyed key x = record { origin = x.origin; number = x.number; key = key; time = x.time; value = x.value }

-- and as the model has it
abbrev pub keyed_sample : List ℕ → UnkeyedSample → model.Sample
keyed_sample key x = sample_of (sample_of_unkeyed key x)

module _ {X : Type 0} where
  -- the archives of each key, each seen as a map
  abbrev pub held_series : (X → ArchiveCells) → List (List ℕ × Vec X) → Series
  held_series cells entries = map (λ e. (e.0, map cells e.1.items)) entries

  -- the archives of a key, if it has any
  abbrev pub archives_of : List (List ℕ × Vec X) → List ℕ → Option (Vec X)
  archives_of entries key = lookup (is_at (bytes_cmp key)) entries

  -- what an archive holds, and how many rows it keeps
  abbrev pub seen_archive : (X → ArchiveCells) → (X → ℕ) → X → ArchiveCells × ℕ
  seen_archive cells limit a = (cells a, limit a)

  -- and so of each archive of a key, if it has any
  abbrev pub seen_at : (X → ArchiveCells) → (X → ℕ) → List (List ℕ × Vec X) → List ℕ → Option (List (ArchiveCells × ℕ))
  seen_at cells limit entries key = option_map (λ (v : Vec X). map (seen_archive cells limit) v.items)
      (archives_of entries key)

  abbrev pub replica_state_in : (X → ArchiveCells) → Layout → ℕ → ℕ → List (List ℕ × Vec X) → ReplicaState
  replica_state_in cells schema origin next entries =
      record { schema = schema; origin = origin; next = next; cells = cells_of (held_series cells entries) }

  -- the key of an operation has archives, and these have room for it
  abbrev pub HasRoom : (X → CellSlot → Bool) → Layout → Op → List (List ℕ × Vec X) → Type 0
  HasRoom is_ready s op entries = (archives : Vec X) × (archives_of entries (op_key op) ≡ Some archives)
      × HaveRoomFor is_ready s op archives.items

  -- each key has the archives of the schema, with as many rows
  abbrev pub AreAllSized : (X → ℕ) → Layout → List (List ℕ × Vec X) → Type 0
  AreAllSized limit schema entries = (key : List ℕ) (archives : Vec X) → archives_of entries key ≡ Some archives
      → AreSized limit schema archives.items

  -- what a replica has in memory: cells that make a sound state, the archives of the schema for each key, and strictly
  -- ascending keys
  pub record IsReplicaInMemory (cells : X → ArchiveCells) (limit : X → ℕ) (schema : Layout) (origin next : ℕ)
      (entries : List (List ℕ × Vec X)) : Type 0 where
    pub holds : IsReplicaState (replica_state_in cells schema origin next entries)
    pub sized : AreAllSized limit schema entries
    pub ordered : IsStrictlySortedBy bytes_cmp (keys_of entries)

  -- an operation of a layout, and archives of it for each key
  pub record SuitsEntries (limit : X → ℕ) (schema : Layout) (op : Op) (entries : List (List ℕ × Vec X)) : Type 0 where
    pub layout : IsLayout schema
    pub op_of : IsOpOf schema op
    pub sized : AreAllSized limit schema entries

  -- a cell was joined, or memory ran out and it wasn't; if there was room, memory doesn't run out
  pub record JoinsCell (cells : X → ArchiveCells) (limit : X → ℕ) (is_ready : X → CellSlot → Bool) (schema : Layout)
      (c : Cell) (old new : List (List ℕ × Vec X)) (result : Result (Unit {0}) AllocError) : Type 0 where
    pub joined : OnOk result (cells_of (held_series cells new)
        ≡ join_cell schema (cells_of (held_series cells old)) (owned_cell c).0 c.contribution)
    pub unchanged : OnErr result (cells_of (held_series cells new) ≡ cells_of (held_series cells old))
    pub sized : AreAllSized limit schema new
    pub room : HasRoom is_ready schema (Join c) old → IsOk result

  -- room for an operation was made, unless memory ran out, and no cell changed
  pub record MakesRoom {Y : Type 0} (cells : X → ArchiveCells) (limit : X → ℕ) (is_ready : X → CellSlot → Bool)
      (schema : Layout) (op : Op) (old new : List (List ℕ × Vec X)) (result : Result Y AllocError) : Type 0 where
    pub unchanged : cells_of (held_series cells new) ≡ cells_of (held_series cells old)
    pub sized : AreAllSized limit schema new
    pub room : OnOk result (HasRoom is_ready schema op new)

  -- a sample without its key was put as a sample of a key, or memory ran out and it wasn't; if there was room, memory
  -- doesn't run out
  pub record PutsUnkeyed (cells : X → ArchiveCells) (limit : X → ℕ) (is_ready : X → CellSlot → Bool) (schema : Layout)
      (key : List ℕ) (x : UnkeyedSample) (old new : List (List ℕ × Vec X)) (result : Result (Unit {0}) AllocError)
      : Type 0 where
    pub put : OnOk result (cells_of (held_series cells new)
        ≡ put_sample schema (cells_of (held_series cells old)) (keyed_sample key x))
    pub held_with : OnOk result (IsReplicaInMemory cells limit schema x.origin (x.number + 1) new)
    pub unchanged : OnErr result (cells_of (held_series cells new) ≡ cells_of (held_series cells old))
    pub held : OnErr result (IsReplicaInMemory cells limit schema x.origin x.number new)
    pub room : HasRoom is_ready schema (Put (sample_of_unkeyed key x)) old → IsOk result
