-- The names of cells, each with a version.
use Rattle.std.specs.Prelude.{ℕ, ◌<◌, ◌≤◌, List, map, length, Option, FitsSigned}
use Rattle.std.specs.Borrow.{Bor}
use Rattle.std.specs.FinMap.{entries}
use Rattle.std.specs.Int.{w64}
use Rattle.std.specs.Option.{option_map}
use Rattle.rr_text.specs.declared.limits.TheConstants.{MAX_NUMBER}
use Rattle.rr_schema.specs.Origin.{IsOrigin}
use Rattle.rr_schema.specs.Schema.{Layout}
use Rattle.rr_key.specs.Series.{IsKeyText}
use Rattle.rr_cells.specs.CellNames.{CellName}
use Rattle.rr_cells.specs.CellBounds.{NamedCell}
use Rattle.rr_cells.specs.Cells.{Cells}
use Rattle.rr_delta.specs.declared.name.Name.{Name}

-- a name, and the version of the cell there
abbrev pub NamedVersion : Type 0
NamedVersion = CellName × ℕ

-- those of a cell
abbrev pub named_version : NamedCell → NamedVersion
named_version e = (e.0, e.1.version)

-- those of all cells, in the order of their names
abbrev pub versions_of : Cells → List NamedVersion
versions_of m = map named_version (entries m)

-- a name that owns its key, as one of these
abbrev pub owned_name : Name → NamedVersion
owned_name n = (record { key = n.key; archive = n.archive; slot = n.slot; origin = n.origin }, n.version)

-- a borrowed one without its version, if there is one
abbrev pub name_in : Option (Bor Name) → Option CellName
name_in lent = option_map (λ n. (owned_name n.now).0) lent

-- a name and a version that a cell of a schema can have
pub record IsNameOf (s : Layout) (v : NamedVersion) : Type 0 where
  pub key : IsKeyText v.0.key
  pub archive : v.0.archive < length s.archives
  pub origin : IsOrigin v.0.origin
  pub slot_fits : FitsSigned w64 v.0.slot
  pub version_at_least : 1 ≤ v.1
  pub version_at_most : v.1 ≤ MAX_NUMBER
