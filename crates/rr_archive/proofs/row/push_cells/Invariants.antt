use Rattle.std.proofs.Common.{◌≡◌, ◌≤◌, ◌++◌, map, take, vec_capacity}
use Rattle.rr_archive.proofs.row.push_cells.Given as goal

-- the cells of the entries so far were added, and the list has no less room
abbrev pub invariant-loop-entry : goal.invariant-loop-entry
invariant-loop-entry l = record {
  added : l.cells.items ≡ l.initial.cells.items ++ map (λ e. (l.slot, e)) (take l.entry-index l.row);
  capacity : vec_capacity l.initial.cells ≤ vec_capacity l.cells;
}
