use Rattle.std.proofs.Common.{◌≡◌, ◌++◌, drop}
use Rattle.rr_changes.specs.Listing.{up_to_slot}
use Rattle.rr_changes.proofs.listing.push_up_to.Given as goal

-- the cells so far, and those that are left
abbrev pub invariant-loop-cell : goal.invariant-loop-cell
invariant-loop-cell l =
    l.cells.items ++ up_to_slot l.last (drop l.cell-index l.run) ≡ l.fn.cells.items ++ up_to_slot l.last l.run
