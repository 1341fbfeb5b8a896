use Rattle.std.proofs.Common.{◌≡◌, ◌-◌, map, take, Some}
use Rattle.std.specs.Option.{option_map}
use Rattle.std.specs.FinMap.{entries}
use Rattle.rr_cells.specs.Listing.{seen_cell}
use Rattle.rr_delta.specs.Names.{named_version, owned_name}
use Rattle.rr_delta.specs.Summaries.{cells_from}
use Rattle.rr_delta.proofs.SummaryLemmas.{listed_so_far}
use Rattle.rr_delta.proofs.listing.listed_from.Given as goal

-- the names so far, and those that are still to come; the walk is over the replica
abbrev pub invariant-loop : goal.invariant-loop
invariant-loop g l = record {
  names : listed_so_far (map owned_name l.names.items) (l.fn.count - l.counter)
      (cells_from (option_map seen_cell l.next) (entries l.replica.cells))
      ≡ take l.fn.count (map named_version (cells_from (Some (seen_cell l.first)) (entries l.replica.cells)));
  walk : l.walk ≡ l.replica;
}
