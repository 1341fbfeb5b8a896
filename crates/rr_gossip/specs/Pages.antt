-- The pages that a list of cells is cut into.
use Rattle.std.specs.Prelude.{ℕ, List, [], ◌∷◌, take, drop, All, IsTrue, Option, None, Some}
use Rattle.std.specs.FinMap.{is_sorted}
use Rattle.rr_text.specs.declared.limits.TheConstants.{MAX_PAGE_CELLS}
use Rattle.rr_schema.specs.Schema.{Layout}
use Rattle.rr_cells.specs.CellNames.{cell_name_cmp}
use Rattle.rr_page.specs.Page.{page_text}
use Rattle.rr_page.specs.Version.{latest}
use Rattle.rr_cells.specs.CellBounds.{NamedCell, IsCellOf}

-- cells of a schema that are still to be sent
abbrev pub CellsLeft : Type 0
CellsLeft = Layout × List NamedCell

-- they are cells of the schema, strictly ascending by their names
pub record AreLeft (left : CellsLeft) : Type 0 where
  pub cells : All (IsCellOf left.0) left.1
  pub names_ascend : IsTrue (is_sorted cell_name_cmp left.1)

-- the next page has 256 of them, or all if there are fewer
abbrev pub next_cells : List NamedCell → List NamedCell
next_cells es = take MAX_PAGE_CELLS es

-- its bytes; there is none if no cell is left
abbrev pub next_page : CellsLeft → Option (List ℕ)
next_page (s, []) = None
next_page (s, e ∷ es) = Some (page_text latest s (next_cells (e ∷ es)))

-- and what is left after it
abbrev pub after_page : CellsLeft → CellsLeft
after_page left = (left.0, drop MAX_PAGE_CELLS left.1)
