use Rattle.std.proofs.Common.{◌≡◌, ◌++◌, length, take, map}
use Rattle.std.specs.List.{flat_map}
use Rattle.rr_cells.specs.Listing.{owned_cell}
use Rattle.rr_page.specs.CellText.{cell_text}
use Rattle.rr_page.specs.Page.{head_text}
use Rattle.rr_page.specs.Version.{latest}
use Rattle.rr_page.proofs.encoding.encode.Given as goal

abbrev pub invariant-loop-cell : goal.invariant-loop-cell
invariant-loop-cell l = l.bytes.items ≡ head_text latest l.schema (length l.cells)
    ++ flat_map (cell_text latest) (map owned_cell (take l.cell-index l.cells))
