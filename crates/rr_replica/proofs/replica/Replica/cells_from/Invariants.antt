use Rattle.std.proofs.Common.{◌≡◌, ◌+◌, map, take, drop, slice_get}
use Rattle.std.specs.Option.{option_map}
use Rattle.std.specs.FinMap as fin
use Rattle.rr_cells.specs.Listing.{seen_cell, owned_cell}
use Rattle.rr_replica.proofs.replica.Replica.cells_from.Given as goal

-- the cells so far, and the one after them; the walk is over the replica
abbrev pub invariant-loop : goal.invariant-loop
invariant-loop g l = record {
  taken : map owned_cell l.cells.items ≡ take l.counter (drop l.fn.from (fin.entries l.self.cells));
  next : option_map seen_cell l.next ≡ slice_get (fin.entries l.self.cells) (l.fn.from + l.counter);
  walk : l.walk ≡ l.self;
}
