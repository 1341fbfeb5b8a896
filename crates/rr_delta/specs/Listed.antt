-- What is answered as a list of names or of cells.
use Rattle.std.specs.Prelude.{◌≡◌, All, IfOk, IsTrue, List, Result, map}
use Rattle.std.specs.Global.{Vec}
use Rattle.std.specs.declared.alloc.AllocError.{AllocError}
use Rattle.std.specs.FinMap.{is_sorted}
use Rattle.rr_schema.specs.Schema.{Layout}
use Rattle.rr_cells.specs.declared.cell.Cell.{Cell}
use Rattle.rr_cells.specs.CellNames.{cell_name_cmp}
use Rattle.rr_cells.specs.CellBounds.{IsCellOf, NamedCell}
use Rattle.rr_cells.specs.Listing.{owned_cell}
use Rattle.rr_delta.specs.declared.name.Name.{Name}
use Rattle.rr_delta.specs.Names.{IsNameOf, NamedVersion, owned_name}
use Rattle.rr_delta.specs.Difference.{IsSummary}

-- these names are listed, strictly ascending and of the schema, unless memory ran out
pub record ListsNames (s : Layout) (vs : List NamedVersion) (result : Result (Vec Name) AllocError) : Type 0 where
  pub listed : IfOk result (λ names. map owned_name names.items ≡ vs)
  pub ascending : IfOk result (λ names. IsSummary (map owned_name names.items))
  pub of_schema : IfOk result (λ names. All (λ n. IsNameOf s (owned_name n)) names.items)

-- these cells are listed, of the schema and with strictly ascending names, unless memory ran out
pub record ListsCells (s : Layout) (es : List NamedCell) (result : Result (Vec Cell) AllocError) : Type 0 where
  pub newer : IfOk result (λ cells. map owned_cell cells.items ≡ es)
  pub ascending : IfOk result (λ cells. IsTrue (is_sorted cell_name_cmp (map owned_cell cells.items)))
  pub of_schema : IfOk result (λ cells. All (λ c. IsCellOf s (owned_cell c)) cells.items)
