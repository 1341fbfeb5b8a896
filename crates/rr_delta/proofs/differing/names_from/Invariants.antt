use Rattle.std.proofs.Common.{◌≡◌, map, length}
use Rattle.rr_cells.specs.Listing.{seen_cell}
use Rattle.rr_delta.specs.Names.{owned_name}
use Rattle.rr_delta.specs.Difference.{names_from}
use Rattle.rr_delta.proofs.differing.names_from.Given as goal

abbrev pub invariant-loop-left : goal.invariant-loop-left
invariant-loop-left l = names_from (seen_cell l.cell).0 (map owned_name l.left)
    ≡ names_from (seen_cell l.cell).0 (map owned_name l.names)

abbrev pub decreases-loop-left : goal.decreases-loop-left
decreases-loop-left l = length l.left
