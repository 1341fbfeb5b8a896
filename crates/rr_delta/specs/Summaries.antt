-- The cells of a walk in the order of names.
use Rattle.std.specs.Prelude.{List, [], ◌∷◌, Option, None, Some}
use Rattle.std.specs.List.{filter}
use Rattle.std.specs.Ordering.{is_lt}
use Rattle.rr_cells.specs.CellNames.{CellName, cell_name_cmp}
use Rattle.rr_cells.specs.CellBounds.{NamedCell}

-- the cells after a name; all of them if there is none
abbrev pub cells_after : Option CellName → List NamedCell → List NamedCell
cells_after None es = es
cells_after (Some n) es = filter (λ e. is_lt (cell_name_cmp n e.0)) es

-- the cell that a walk has come to and those after it; nothing if it is at its end
abbrev pub cells_from : Option NamedCell → List NamedCell → List NamedCell
cells_from None es = []
cells_from (Some e) es = e ∷ cells_after (Some e.0) es
