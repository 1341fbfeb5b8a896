use Rattle.std.proofs.Common.{◌≡◌}
use Rattle.std.specs.List.{slice_get}
use Rattle.rr_archive.proofs.Listing.{cells_list}
use Rattle.rr_archive.proofs.slots.Slots.nth_cell.Given as goal

abbrev pub invariant-loop-slot : goal.invariant-loop-slot
invariant-loop-slot l = slice_get (cells_list l.slot-iterator) l.left
    ≡ slice_get (cells_list l.self.rows.entries) l.fn.i
