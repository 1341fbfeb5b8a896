use Rattle.std.proofs.Common.{◌≡◌, ◌++◌, map, take}
use Rattle.rr_changes.proofs.listing.push_row.Given as goal

-- the entries so far were added
abbrev pub invariant-loop-entry : goal.invariant-loop-entry
invariant-loop-entry l = l.cells.items ≡ l.fn.cells.items ++ map (λ e. (l.slot, e)) (take l.entry-index l.row)
