use Rattle.std.proofs.Common.{◌≡◌, ◌++◌, ℤ, List, length, map}
use Rattle.rr_cells.specs.CellBounds.{NamedCell}
use Rattle.rr_archive.specs.declared.entry.Entry.{Entry}
use Rattle.rr_changes.specs.Listing.{named_cell}
use Rattle.rr_commit.specs.Packing.{Packs}
use Rattle.rr_commit.proofs.packing.Packing.add_cells.Given as goal

-- the cells that are not left were added
abbrev pub invariant-loop-left : goal.invariant-loop-left
invariant-loop-left l = record {
  added : List (ℤ × Entry);
  whole : added ++ l.left ≡ l.cells;
  packs : (done : List (List NamedCell)) (since : List NamedCell) → Packs l.fn.self done since 0
      → Packs l.self done (since ++ map (named_cell l.key l.archive) added) 0;
}

abbrev pub decreases-loop-left : goal.decreases-loop-left
decreases-loop-left l = length l.left
