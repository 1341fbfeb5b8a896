-- What a replica holds after a join of several cells.
use Rattle.std.specs.Prelude.{◌≡◌, List, map, take}
use Rattle.std.specs.FinMap.{entries}
use Rattle.rr_cells.specs.declared.cell.Cell.{Cell}
use Rattle.rr_cells.specs.Cells.{Cells}
use Rattle.rr_cells.specs.ReplicaState.{ReplicaState}
use Rattle.rr_cells.specs.Joining.{with_cells}
use Rattle.rr_cells.specs.Joins.{join}
use Rattle.rr_cells.specs.Listing.{owned_cell}
use Rattle.rr_replica.specs.declared.fault.JoinFault.{JoinFault}
use Rattle.rr_replica.specs.declared.fault.JoinFault.TheVariants as why

-- if memory ran out, the first cells are joined, as many as the fault says
abbrev pub IsAfterJoined : ReplicaState → ReplicaState → List Cell → JoinFault → Type 0
IsAfterJoined old new cells (why.Memory joined) = new ≡ with_cells old (take joined cells)

-- if the cells are all those of a map, the result is the join with this map
abbrev pub IsJoinedWith : ReplicaState → ReplicaState → List Cell → Type 0
IsJoinedWith old new cells = (m : Cells) → map owned_cell cells ≡ entries m → new.cells ≡ join old.schema old.cells m
