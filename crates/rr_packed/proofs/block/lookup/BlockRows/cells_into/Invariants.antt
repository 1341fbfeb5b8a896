use Rattle.std.proofs.Common.{◌≡◌, ◌≤◌, ◌+◌, ◌++◌, vec_capacity}
use Rattle.rr_packed.specs.BlockRows.{items_in}
use Rattle.rr_packed.specs.PackedRows.{cells_of_rows}
use Rattle.rr_packed.proofs.block.lookup.BlockRows.cells_into.Given as goal

-- the cells of the rows so far were added, and the list has no less room
abbrev pub invariant-loop-i : goal.invariant-loop-i
invariant-loop-i l = record {
  added : l.run.items ≡ l.initial.run.items
      ++ cells_of_rows (λ i. items_in l.fn.self (l.fn.first.value + i)) l.fn.slot l.i;
  capacity : vec_capacity l.initial.run ≤ vec_capacity l.run;
}
