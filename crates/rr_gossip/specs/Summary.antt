-- The body of a Summary frame: names of cells, each with a version.
use Rattle.std.specs.Prelude.{ℕ, ◌≤◌, Bool, true, ◌&&◌, List, [], ◌∷◌, ◌++◌, length, map, All, IsTrue, Option, None, Some}
use Rattle.std.specs.Int.{w16, w64, to_be_bytes}
use Rattle.std.specs.List.{flat_map, last_or}
use Rattle.rr_schema.specs.Schema.{Layout}
use Rattle.rr_cells.specs.CellNames.{CellName}
use Rattle.rr_page.specs.CellText.{name_text}
use Rattle.rr_page.specs.PageReading.{is_after}
use Rattle.rr_delta.specs.Names.{NamedVersion, IsNameOf}
use Rattle.rr_gossip.specs.declared.summary.TheConstants.{MAX_ENTRIES}

-- the bytes of a name, as in a cell, and the version in eight
unfoldable pub entry_text : NamedVersion → List ℕ
entry_text v = name_text v.0 ++ to_be_bytes w64 v.1

-- how many there are in two bytes, and their bytes
unfoldable pub summary_text : List NamedVersion → List ℕ
summary_text vs = to_be_bytes w16 (length vs) ++ flat_map entry_text vs

-- whether each name is greater than the one before it, and the first greater than this one, if there is one
abbrev pub is_rising : Option CellName → List NamedVersion → Bool
is_rising before [] = true
is_rising before (v ∷ vs) = is_after before v.0 && is_rising (Some v.0) vs

-- the name of the last of these, if there is one
abbrev pub last_name : List NamedVersion → Option CellName
last_name vs = last_or None (map (λ v. v.0) vs)

-- 1 to 256 names of cells of the schema, ascending from the one before them
pub record IsPiece (s : Layout) (before : Option CellName) (vs : List NamedVersion) : Type 0 where
  pub some : 1 ≤ length vs
  pub few : length vs ≤ MAX_ENTRIES
  pub names : All (IsNameOf s) vs
  pub rising : IsTrue (is_rising before vs)
