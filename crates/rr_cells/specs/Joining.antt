-- How cells from elsewhere change a replica.
use Rattle.std.specs.Prelude.{ℕ, ◌+◌, ◌==◌, ◌&&◌, nat_le, List, [], ◌∷◌, if◌then◌else◌}
use Rattle.rr_cells.specs.declared.cell.Cell.{Cell}
use Rattle.rr_cells.specs.CellBounds.{NamedCell}
use Rattle.rr_cells.specs.ReplicaState.{ReplicaState}
use Rattle.rr_cells.specs.Joins.{join_cell}
use Rattle.rr_cells.specs.Listing.{owned_cell}

-- the next number, moved past the version of a cell if that is of the replica's own origin
abbrev pub next_after : ℕ → ℕ → NamedCell → ℕ
next_after origin next e = if (e.0.origin == origin && nat_le next e.1.version) then e.1.version + 1 else next

-- the same for each of these cells, in order
abbrev pub next_past : ℕ → ℕ → List NamedCell → ℕ
next_past origin next [] = next
next_past origin next (e ∷ es) = next_past origin (next_after origin next e) es

-- with a cell joined in
abbrev pub with_named : ReplicaState → NamedCell → ReplicaState
with_named h e = record {
  schema = h.schema;
  origin = h.origin;
  next = next_after h.origin h.next e;
  cells = join_cell h.schema h.cells e.0 e.1;
}

abbrev pub with_cell : ReplicaState → Cell → ReplicaState
with_cell h c = with_named h (owned_cell c)

-- with these cells joined in, in order
abbrev pub with_cells : ReplicaState → List Cell → ReplicaState
with_cells h [] = h
with_cells h (c ∷ cs) = with_cells (with_cell h c) cs
