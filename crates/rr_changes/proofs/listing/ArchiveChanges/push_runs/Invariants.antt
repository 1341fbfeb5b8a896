use Rattle.std.proofs.Common.{◌≡◌, ◌++◌, ◌+ℤ◌, ◌≤ℤ◌, pos}
use Rattle.rr_changes.specs.Listing.{cells_between}
use Rattle.rr_changes.proofs.SlotLemmas.{slots_left}
use Rattle.rr_changes.proofs.listing.ArchiveChanges.push_runs.Given as goal

-- the cells so far, and those that are left
abbrev pub invariant-loop-first : goal.invariant-loop-first
invariant-loop-first g l = record {
  cells : l.self ++ cells_between (g.A.Cells.cells l.archive) l.first (l.slots.last +ℤ pos 1)
      ≡ l.fn.self ++ cells_between (g.A.Cells.cells l.archive) l.slots.first (l.slots.last +ℤ pos 1);
  from : l.slots.first ≤ℤ l.first;
}

abbrev pub decreases-loop-first : goal.decreases-loop-first
decreases-loop-first g l = slots_left l.first l.slots.last
