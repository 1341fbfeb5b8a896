use Rattle.std.proofs.Common.{◌≡◌, ◌-◌, ◌++◌}
use Rattle.std.specs.Option.{option_map}
use Rattle.std.specs.FinMap.{entries}
use Rattle.rr_cells.specs.Listing.{seen_cell}
use Rattle.rr_replica.specs.Keys.{keys_after, keys_from, lent_key}
use Rattle.rr_replica.proofs.replica.Replica.keys_after.Given as goal

-- the keys so far, and those that are still to come
abbrev pub invariant-loop : goal.invariant-loop
invariant-loop g l =
    l.keys.items ++ keys_from (option_map seen_cell l.next) (l.fn.count - l.counter) (entries l.self.cells)
    ≡ keys_after (lent_key l.after) l.fn.count (entries l.self.cells)
