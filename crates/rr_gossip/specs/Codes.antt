-- Codes of names with versions, and of cells, which show that lists of them are sets.
use Rattle.std.specs.Prelude.{List}
use Rattle.std.specs.Coded.{Coded, coded×, coded_ℕ, coded_list}
use Rattle.rr_schema.specs.Schema.{Layout}
use Rattle.rr_archive.specs.Codes.{coded_contribution}
use Rattle.rr_delta.specs.Names.{NamedVersion}
use Rattle.rr_cells.specs.CellBounds.{NamedCell}
use Rattle.rr_cells.specs.ReplicaState.{coded_name, coded_layout}

abbrev pub coded_names : Coded (List NamedVersion)
coded_names = coded_list (coded× coded_name coded_ℕ)

abbrev pub coded_pages : Coded (Layout × List NamedCell)
coded_pages = coded× coded_layout (coded_list (coded× coded_name coded_contribution))
