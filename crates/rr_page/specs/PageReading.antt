-- The reading of a page, as a function of the bytes: field by field, up to the first fault.
use Rattle.std.specs.Prelude.{ℕ, zero, suc, nat_lt, Bool, true, not, ◌==◌, nat_eq, List, [], ◌∷◌, length, map, Result, Ok, ok_or, Option, None, Some, ◌&&◌}
use Rattle.std.specs.Cmp.Lexicographic.{pointwise}
use Rattle.std.specs.Int.{w8, w16}
use Rattle.std.specs.List.{last_or}
use Rattle.std.specs.Ordering.{is_lt}
use Rattle.rr_text.specs.declared.limits.TheConstants.{MAX_PAGE_CELLS}
use Rattle.rr_text.specs.Results.{◌>>=◌, unless}
use Rattle.rr_schema.specs.Schema.{Layout}
use Rattle.rr_schema.specs.SchemaBytes.{schema_bytes}
use Rattle.rr_cells.specs.CellNames.{CellName, cell_name_cmp}
use Rattle.rr_cells.specs.CellBounds.{NamedCell}
use Rattle.rr_page.specs.declared.fault.PageFault.{PageFault}
use Rattle.rr_page.specs.declared.fault.PageFault.TheVariants.{BadMagic, BadVersion, SchemaDiffers, TooManyCells, OutOfOrder, TrailingBytes}
use Rattle.rr_page.specs.declared.version.Version.{Version}
use Rattle.rr_page.specs.Page.{magic}
use Rattle.rr_page.specs.Version.{named_version, has_masks_for}
use Rattle.rr_page.specs.Reading.{prefix_at, number_at, cell_at}

-- ---- what a page has before its cells

-- a version, and what follows it
unfoldable pub version_at : List ℕ → Result (Version × List ℕ) PageFault
version_at bytes = do
  byte ← number_at w8 bytes
  version ← ok_or (named_version byte.0) BadVersion
  Ok (version, byte.1)

-- the bytes that every page begins with, then its version, and what follows it
unfoldable pub start_at : List ℕ → Result (Version × List ℕ) PageFault
start_at bytes = do
  start ← prefix_at (length magic) bytes
  unless BadMagic (not (pointwise nat_eq start.0 magic)) (version_at start.1)

-- the version, as many bytes as the schema has, and what follows them
unfoldable pub schema_at : Layout → List ℕ → Result ((Version × List ℕ) × List ℕ) PageFault
schema_at s bytes = do
  version ← start_at bytes
  field ← prefix_at (length (schema_bytes s)) version.1
  Ok ((version.0, field.0), field.1)

-- whether these bytes are those of a schema that the version has masks for
abbrev pub is_schema : Version → Layout → List ℕ → Bool
is_schema v s field = has_masks_for v s && pointwise nat_eq field (schema_bytes s)

-- the version and the number of cells, and what follows them
unfoldable pub head_at : Layout → List ℕ → Result ((Version × ℕ) × List ℕ) PageFault
head_at s bytes = do
  field ← schema_at s bytes
  count ← unless SchemaDiffers (not (is_schema field.0.0 s field.0.1)) (number_at w16 field.1)
  unless TooManyCells (nat_lt MAX_PAGE_CELLS count.0) (Ok ((field.0.0, count.0), count.1))

-- ---- the cells

-- whether a name comes after the one before it, if there is one
abbrev pub is_after : Option CellName → CellName → Bool
is_after None n = true
is_after (Some before) n = is_lt (cell_name_cmp before n)

-- the name of the last of these cells, if there is one
abbrev pub last_name : List NamedCell → Option CellName
last_name es = last_or None (map (λ e. e.0) es)

-- `n` cells after the one of a name, and what follows them
unfoldable pub cells_at : Version → Layout → Option CellName → ℕ → List ℕ → Result (List NamedCell × List ℕ) PageFault
cells_at v s before zero bytes = Ok ([], bytes)
cells_at v s before (suc n) bytes = do
  first ← cell_at v s bytes
  others ← unless OutOfOrder (not (is_after before first.0.0)) (cells_at v s (Some first.0.0) n first.1)
  Ok (first.0 ∷ others.0, others.1)

-- ---- the whole

-- the cells of a page at the beginning, and what follows it
unfoldable pub prefix_page_at : Layout → List ℕ → Result (List NamedCell × List ℕ) PageFault
prefix_page_at s bytes = do
  head ← head_at s bytes
  cells_at head.0.0 s None head.0.1 head.1

-- the cells of all of the bytes, read as a page
unfoldable pub page_at : Layout → List ℕ → Result (List NamedCell) PageFault
page_at s bytes = do
  page ← prefix_page_at s bytes
  unless TrailingBytes (not (length page.1 == 0)) (Ok page.0)
