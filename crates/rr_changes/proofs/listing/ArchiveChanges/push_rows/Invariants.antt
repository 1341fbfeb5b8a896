use Rattle.std.proofs.Common.{◌≡◌, ◌++◌, ◌+ℤ◌, pos}
use Rattle.rr_changes.specs.Listing.{cells_between}
use Rattle.rr_changes.proofs.listing.ArchiveChanges.push_rows.Given as goal

-- the cells so far, and those that are left
abbrev pub invariant-loop-slot : goal.invariant-loop-slot
invariant-loop-slot g l =
    l.self-inside.cells.items ++ cells_between (g.A.Cells.cells l.archive) l.slot (l.slots.last +ℤ pos 1)
    ≡ l.fn.self ++ cells_between (g.A.Cells.cells l.archive) l.slots.first (l.slots.last +ℤ pos 1)
