-- Snapshots: which cells make one, and its bytes.
use Rattle.std.specs.Prelude.{◌≡◌, ℕ, ◌≤◌, List, ◌∷◌, ◌++◌, length, codes, All, IsTrue}
use Rattle.std.specs.FinMap.{is_sorted}
use Rattle.std.specs.Int.{w16, w32, to_be_bytes}
use Rattle.std.specs.List.{flat_map}
use Rattle.sha2.specs.Sha256.{sha256}
use Rattle.rr_schema.specs.Origin.{IsOrigin}
use Rattle.rr_schema.specs.Schema.{Layout}
use Rattle.rr_schema.specs.Added.{IsAddition, older}
use Rattle.rr_schema.specs.SchemaBytes.{schema_bytes}
use Rattle.rr_cells.specs.CellNames.{cell_name_cmp}
use Rattle.rr_cells.specs.CellBounds.{NamedCell, IsCellOf}
use Rattle.rr_page.specs.declared.version.Version.{Version}
use Rattle.rr_page.specs.CellText.{cell_text}
use Rattle.rr_page.specs.Version.{version_byte, HasMasksFor}
use Rattle.rr_snapshot.specs.declared.heading.Head.{Head}
use Rattle.rr_snapshot.specs.declared.heading.TheConstants.{MAX_SNAPSHOT_CELLS}

-- an origin, and at most 4,294,967,295 cells of the schema, strictly ascending by their names
pub record IsSnapshot (s : Layout) (origin : ℕ) (es : List NamedCell) : Type 0 where
  pub origin_fits : IsOrigin origin
  pub count_fits : length es ≤ MAX_SNAPSHOT_CELLS
  pub cells : All (IsCellOf s) es
  pub names_ascend : IsTrue (is_sorted cell_name_cmp es)

-- the bytes that every snapshot begins with
abbrev pub magic : List ℕ
magic = codes "RRSN"

-- these, the version in one byte, the schema, the saving replica's origin in two bytes, and the number of
-- cells in four
unfoldable pub head_text : Version → Layout → ℕ → ℕ → List ℕ
head_text v s origin count = magic ++ (version_byte v ∷
    (schema_bytes s ++ (to_be_bytes w16 origin ++ to_be_bytes w32 count)))

-- and after them the cells
unfoldable pub body_text : Version → Layout → ℕ → List NamedCell → List ℕ
body_text v s origin es = head_text v s origin (length es) ++ flat_map (cell_text v) es

-- and the digest of all of this
unfoldable pub snapshot_text : Version → Layout → ℕ → List NamedCell → List ℕ
snapshot_text v s origin es = body_text v s origin es ++ sha256 (body_text v s origin es)

-- the bytes are the text of these cells after a head that a reader accepts: its schema is the reader's before an
-- addition, and has an archive, and the version has masks for it
pub record IsSnapshotText (s : Layout) (head : Head) (es : List NamedCell) (bytes : List ℕ) : Type 0 where
  pub addition : IsAddition s head.addition
  pub some : 1 ≤ length (older s head.addition).archives
  pub wide : HasMasksFor head.version (older s head.addition)
  pub count : head.count ≡ length es
  pub text : bytes ≡ snapshot_text head.version (older s head.addition) head.origin es
