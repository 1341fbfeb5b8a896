use Rattle.std.proofs.Common.{◌≡◌, ◌++◌, map, length}
use Rattle.std.specs.Option.{option_map}
use Rattle.std.specs.FinMap.{entries}
use Rattle.rr_cells.specs.Listing.{seen_cell, owned_cell}
use Rattle.rr_delta.specs.Names.{owned_name}
use Rattle.rr_delta.specs.Summaries.{cells_from}
use Rattle.rr_delta.specs.Difference.{newer_cells}
use Rattle.rr_delta.proofs.DifferenceLemmas.{AreLeft}
use Rattle.rr_delta.proofs.differing.difference.Given as goal

-- the cells so far, and the newer ones of what is left; the names that are left of the summary; the walk is over the
-- replica
abbrev pub invariant-loop-next : goal.invariant-loop-next
invariant-loop-next g l = record {
  so_far : map owned_cell l.cells.items ++ newer_cells (map owned_name l.summary)
      (cells_from (option_map seen_cell l.next) (entries l.replica.cells))
      ≡ newer_cells (map owned_name l.summary) (entries l.replica.cells);
  left : AreLeft (option_map seen_cell l.next) (map owned_name l.summary) (map owned_name l.names);
  walk : l.walk ≡ l.replica;
}

abbrev pub decreases-loop-next : goal.decreases-loop-next
decreases-loop-next g l = length (cells_from (option_map seen_cell l.next) (entries l.replica.cells))
