-- The name after which cells are listed, and the cell that is lent.
use Rattle.std.specs.Prelude.{◌≡◌, Option, IfSome}
use Rattle.std.specs.Option.{option_map}
use Rattle.rr_schema.specs.Schema.{Layout}
use Rattle.rr_cells.specs.declared.cell.CellRef.{CellRef}
use Rattle.rr_cells.specs.CellBounds.{IsCellOf, NamedCell}
use Rattle.rr_cells.specs.CellNames.{CellName}
use Rattle.rr_cells.specs.Listing.{seen_cell}
use Rattle.rr_replica.specs.declared.next.NameRef.{NameRef}

-- a name with a borrowed key
abbrev pub seen_name : NameRef → CellName
seen_name n = record { key = n.key.now; archive = n.archive; slot = n.slot; origin = n.origin }

-- this cell, one of a schema, is lent, or there is none
pub record LendsCell (s : Layout) (there : Option NamedCell) (result : Option CellRef) : Type 0 where
  pub listed : option_map seen_cell result ≡ there
  pub of_schema : IfSome result (λ c. IsCellOf s (seen_cell c))
