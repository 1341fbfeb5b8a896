-- The cells of records, and what they make of a replica.
use Rattle.std.specs.Prelude.{◌≡◌, ℕ, List, [], ◌∷◌, map, Result, Ok, Err}
use Rattle.std.specs.List.{flat_map}
use Rattle.rr_cells.specs.CellBounds.{NamedCell}
use Rattle.rr_cells.specs.Joining.{with_named}
use Rattle.rr_cells.specs.Listing.{cell_name}
use Rattle.rr_cells.specs.ReplicaState.{ReplicaState}
use Rattle.rr_codec.specs.declared.fault.CodecFault.{CodecFault}
use Rattle.rr_codec.specs.Fields.{SlotEntry}
use Rattle.rr_codec.specs.Reading.{cells_of}
use Rattle.rr_journal.specs.Body.{Meaning, PackedCells, HasCells, HasOrigin, HasJoined, HasEnded, HasWitness}

-- a cell of a key and an archive
abbrev pub named_by : List ℕ → ℕ → SlotEntry → NamedCell
named_by key archive e = (cell_name key archive e.0 e.1.origin, e.1.contribution)

-- the cells that were read; none if they were refused
abbrev pub cells_read : Result (List SlotEntry) CodecFault → List SlotEntry
cells_read (Ok es) = es
cells_read (Err fault) = []

-- the cells of a group, under its key and archive
abbrev pub group_cells : PackedCells → List NamedCell
group_cells g = map (named_by g.key g.archive) (cells_read (cells_of g.bytes))

-- those of a record
abbrev pub cells_of_record : Meaning → List NamedCell
cells_of_record (HasCells groups) = flat_map group_cells groups
cells_of_record (HasOrigin origin) = []
cells_of_record (HasJoined cursor) = []
cells_of_record (HasEnded count) = []
cells_of_record (HasWitness witness) = []

-- with these cells joined in, in order
abbrev pub with_all : ReplicaState → List NamedCell → ReplicaState
with_all h [] = h
with_all h (e ∷ es) = with_all (with_named h e) es

-- some cells were joined, and nothing else changed
abbrev pub JoinsSome : ReplicaState → ReplicaState → Type 0
JoinsSome old new = (es : List NamedCell) × (new ≡ with_all old es)
