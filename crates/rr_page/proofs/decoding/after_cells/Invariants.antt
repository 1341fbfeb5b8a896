use Rattle.std.proofs.Common.{◌≡◌, ◌-◌, List, None, option_map}
use Rattle.rr_cells.specs.CellBounds.{NamedCell}
use Rattle.rr_page.specs.Found.{found_cell}
use Rattle.rr_page.specs.PageReading.{last_name, cells_at}
use Rattle.rr_page.proofs.LoopLemmas.{with_prefix}
use Rattle.rr_page.proofs.decoding.after_cells.Given as goal

-- some cells were found, the last of them last, and those that are left come after them
abbrev pub invariant-loop : goal.invariant-loop
invariant-loop l =
    (prefix : List NamedCell)
    × (option_map (λ c. (found_cell c).0) l.before ≡ last_name prefix)
    × (with_prefix prefix (cells_at l.version l.schema (last_name prefix) (l.count - l.counter) l.rest)
    ≡ cells_at l.version l.schema None l.count l.bytes)
