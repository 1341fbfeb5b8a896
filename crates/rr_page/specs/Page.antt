-- Pages: which cells make one, and its bytes.
use Rattle.std.specs.Prelude.{◌≡◌, ℕ, ◌≤◌, List, ◌∷◌, ◌++◌, length, codes, All, IsTrue}
use Rattle.std.specs.FinMap.{is_sorted}
use Rattle.std.specs.Int.{w16, to_be_bytes}
use Rattle.std.specs.List.{flat_map}
use Rattle.rr_text.specs.declared.limits.TheConstants.{MAX_PAGE_CELLS}
use Rattle.rr_schema.specs.Schema.{Layout}
use Rattle.rr_schema.specs.SchemaBytes.{schema_bytes}
use Rattle.rr_cells.specs.CellNames.{cell_name_cmp}
use Rattle.rr_cells.specs.CellBounds.{NamedCell, IsCellOf}
use Rattle.rr_page.specs.declared.version.Version.{Version}
use Rattle.rr_page.specs.CellText.{cell_text}
use Rattle.rr_page.specs.Version.{version_byte, HasMasksFor}

-- at most 256 cells of the schema, strictly ascending by their names
pub record IsPage (s : Layout) (es : List NamedCell) : Type 0 where
  pub count_fits : length es ≤ MAX_PAGE_CELLS
  pub cells : All (IsCellOf s) es
  pub names_ascend : IsTrue (is_sorted cell_name_cmp es)

-- the bytes that every page begins with
abbrev pub magic : List ℕ
magic = codes "RRPG"

-- these, the version in one byte, the schema, and the number of cells in two
unfoldable pub head_text : Version → Layout → ℕ → List ℕ
head_text v s count = magic ++ (version_byte v ∷ (schema_bytes s ++ to_be_bytes w16 count))

-- and after them the cells
unfoldable pub page_text : Version → Layout → List NamedCell → List ℕ
page_text v s es = head_text v s (length es) ++ flat_map (cell_text v) es

-- the bytes are the text of these cells, in some version that has masks for the schema
pub record IsPageText (s : Layout) (es : List NamedCell) (bytes : List ℕ) : Type 0 where
  pub version : Version
  pub wide : HasMasksFor version s
  pub text : bytes ≡ page_text version s es
