use Rattle.std.proofs.Common.{◌≡◌, ◌-◌, map, None}
use Rattle.rr_cells.specs.Listing.{owned_cell}
use Rattle.rr_page.specs.PageReading.{last_name, cells_at}
use Rattle.rr_page.proofs.LoopLemmas.{with_prefix}
use Rattle.rr_page.proofs.decoding.cells_of.Given as goal

abbrev pub invariant-loop : goal.invariant-loop
invariant-loop l =
    with_prefix (map owned_cell l.cells.items) (cells_at l.version l.schema (last_name (map owned_cell l.cells.items))
    (l.count - l.counter) l.rest)
    ≡ cells_at l.version l.schema None l.count l.bytes
