-- What a summary lacks.
use Rattle.std.specs.Prelude.{ℕ, nat_lt, Bool, true, IsTrue, List, [], ◌∷◌, Option, None, Some, cond, if◌then◌else◌}
use Rattle.std.specs.FinMap.{find, is_sorted}
use Rattle.std.specs.List.{filter}
use Rattle.std.specs.Ordering.{eq_by_cmp, is_lt}
use Rattle.rr_cells.specs.CellNames.{CellName, cell_name_cmp}
use Rattle.rr_cells.specs.CellBounds.{NamedCell}
use Rattle.rr_delta.specs.Names.{NamedVersion}

-- the names strictly ascend
abbrev pub IsSummary : List NamedVersion → Type 0
IsSummary summary = IsTrue (is_sorted cell_name_cmp summary)

-- the version that a summary has for a name, if it has the name
abbrev pub version_in : List NamedVersion → CellName → Option ℕ
version_in summary n = find cell_name_cmp n summary

-- whether a version is greater than the known one, or none is known
abbrev pub is_newer_than : Option ℕ → ℕ → Bool
is_newer_than None version = true
is_newer_than (Some known) version = nat_lt known version

-- the cells whose name a summary lacks or has with a smaller version
unfoldable pub newer_cells : List NamedVersion → List NamedCell → List NamedCell
newer_cells summary es = filter (λ e. is_newer_than (version_in summary e.0) e.1.version) es

-- ---- the walk along a summary

-- a cell, if its version is greater than the known one, or none is known
abbrev pub newer_cell : Option ℕ → NamedCell → List NamedCell
newer_cell known e = if is_newer_than known e.1.version then e ∷ [] else []

-- what follows the names that are before this one
abbrev pub names_from : CellName → List NamedVersion → List NamedVersion
names_from n [] = []
names_from n (v ∷ vs) = cond (is_lt (cell_name_cmp v.0 n)) (names_from n vs) (v ∷ vs)

-- the first version, if it is the name's
abbrev pub first_version : CellName → List NamedVersion → Option ℕ
first_version n [] = None
first_version n (v ∷ vs) = cond (eq_by_cmp cell_name_cmp v.0 n) (Some v.1) None
