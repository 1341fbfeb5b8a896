use Rattle.std.proofs.Common.{◌≡◌, ◌+◌, map, take}
use Rattle.rr_cells.specs.Listing.{count_of, at_most_usize}
use Rattle.rr_replica.proofs.nth_cell.count_in.Given as goal

abbrev pub invariant-loop-archive : goal.invariant-loop-archive
invariant-loop-archive g l = l.count ≡ at_most_usize
    (l.fn.others + count_of (map g.A.Cells.cells (take l.archive-index l.archives)))
