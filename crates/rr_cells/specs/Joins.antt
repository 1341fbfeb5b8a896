-- The join of two maps of cells.
use Rattle.std.specs.Prelude.{List, [], ◌∷◌}
use Rattle.std.specs.FinMap.{empty, insert}
use Rattle.rr_schema.specs.Schema.{Layout}
use Rattle.rr_join.specs.Maps.{joined}
use Rattle.rr_contrib.specs.declared.contribution.Contribution.{Contribution}
use Rattle.rr_contrib.specs.Contributions.{contribution_cmp}
use Rattle.rr_cells.specs.CellNames.{CellName, is_live}
use Rattle.rr_cells.specs.CellBounds.{NamedCell}
use Rattle.rr_cells.specs.Cells.{Cells}

-- the greater contribution at each name of either map, and then only the live cells
abbrev pub join : Layout → Cells → Cells → Cells
join s m n = joined contribution_cmp (is_live s) m n

-- with a cell joined in
abbrev pub join_cell : Layout → Cells → CellName → Contribution → Cells
join_cell s m n c = join s m (insert empty n c)

-- with these cells joined in, in order
abbrev pub join_cells : Layout → Cells → List NamedCell → Cells
join_cells s m [] = m
join_cells s m (e ∷ es) = join_cells s (join_cell s m e.0 e.1) es
