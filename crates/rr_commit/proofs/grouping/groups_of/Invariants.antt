use Rattle.std.proofs.Common.{◌≡◌, ◌+◌, ◌*◌, ◌++◌, ◌≤◌, length, map}
use Rattle.std.specs.List.{flat_map}
use Rattle.rr_cells.specs.Listing.{owned_cell}
use Rattle.rr_journal.specs.Body.{packed_cells}
use Rattle.rr_recovery.specs.Joining.{group_cells}
use Rattle.rr_commit.specs.Grouping.{groups_text}
use Rattle.rr_commit.proofs.grouping.groups_of.Given as goal

-- the groups so far have the cells that are not left
abbrev pub invariant-loop-next : goal.invariant-loop-next
invariant-loop-next l = record {
  cells : flat_map group_cells (map packed_cells l.groups.items) ++ map owned_cell l.left ≡ map owned_cell l.cells;
  size : length (groups_text l.groups.items) + 1178 * length l.left ≤ 1178 * length l.cells;
  few : length l.left ≤ length l.cells;
}

abbrev pub decreases-loop-next : goal.decreases-loop-next
decreases-loop-next l = length l.left
