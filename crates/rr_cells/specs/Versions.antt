-- Which cells have a greater version than those of another map.
use Rattle.std.specs.Prelude.{nat_lt, Bool, true, false, List, Option, Some, None}
use Rattle.std.specs.List.{filter}
use Rattle.std.specs.FinMap.{get, keys}
use Rattle.rr_contrib.specs.declared.contribution.Contribution.{Contribution}
use Rattle.rr_cells.specs.CellNames.{CellName}
use Rattle.rr_cells.specs.Cells.{Cells}

-- whether there is a first, and either no second or one with a smaller version
abbrev pub is_newer : Option Contribution → Option Contribution → Bool
is_newer None b = false
is_newer (Some a) None = true
is_newer (Some a) (Some b) = nat_lt b.version a.version

-- the names of m that n lacks or has with a smaller version
unfoldable pub newer_names : Cells → Cells → List CellName
newer_names m n = filter (λ q. is_newer (get m q) (get n q)) (keys m)
