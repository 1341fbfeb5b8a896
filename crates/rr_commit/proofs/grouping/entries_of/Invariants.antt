use Rattle.std.proofs.Common.{◌≡◌, map, take}
use Rattle.rr_commit.specs.Grouping.{slot_entry}
use Rattle.rr_commit.proofs.grouping.entries_of.Given as goal

-- the entries so far
abbrev pub invariant-loop-cell : goal.invariant-loop-cell
invariant-loop-cell l = l.entries.items ≡ map slot_entry (take l.cell-index l.cells)
