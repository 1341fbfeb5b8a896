use Rattle.std.proofs.Common.{◌≡◌, ◌-◌, ◌++◌, map, take}
use Rattle.std.specs.Option.{option_map}
use Rattle.std.specs.FinMap.{entries}
use Rattle.rr_cells.specs.Listing.{owned_cell, seen_cell}
use Rattle.rr_delta.specs.Summaries.{cells_from}
use Rattle.rr_changes.specs.Changes.{name_in, next_of}
use Rattle.rr_changes.proofs.walking.next_cells.Given as goal

-- the cells so far, and those that are still to come; the walk is over the replica
abbrev pub invariant-loop : goal.invariant-loop
invariant-loop g l = record {
  cells : map owned_cell l.cells.items ++ take (l.fn.limit - l.counter) (cells_from (option_map seen_cell l.next)
      (entries l.replica.cells)) ≡ next_of l.fn.limit (name_in l.after) (entries l.replica.cells);
  walk : l.walk ≡ l.replica;
}
