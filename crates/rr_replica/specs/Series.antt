-- The cells of series, each a key and the maps of its archives.
use Rattle.std.specs.Prelude.{ℕ, ◌+◌, ◌==◌, cond, List, [], ◌∷◌, ◌++◌, map, unwrap_or}
use Rattle.std.specs.Map.{lookup}
use Rattle.std.specs.BTreeMap.{is_at}
use Rattle.std.specs.FinMap.{empty, entries, from_entries}
use Rattle.rr_text.specs.Bytes.{bytes_cmp}
use Rattle.rr_archive.specs.Cells.{ArchiveCells}
use Rattle.rr_cells.specs.CellBounds.{NamedCell}
use Rattle.rr_cells.specs.Cells.{Cells, name_at}

abbrev pub Series : Type 0
Series = List (List ℕ × List ArchiveCells)

-- the cells of a key's archives, the first of which has this number
abbrev pub cells_from : List ℕ → ℕ → List ArchiveCells → List NamedCell
cells_from key archive [] = []
cells_from key archive (r ∷ rs) = map (λ e. (name_at key archive e.0, e.1)) (entries r)
    ++ cells_from key (archive + 1) rs

-- the cells of all series, in order
abbrev pub all_cells : Series → List NamedCell
all_cells [] = []
all_cells (e ∷ es) = cells_from e.0 0 e.1 ++ all_cells es

-- as a map
unfoldable pub cells_of : Series → Cells
cells_of series = from_entries (all_cells series)

-- the archive with a number, the first of them having this one; empty if there is none
abbrev pub archive_cells_from : ℕ → List ArchiveCells → ℕ → ArchiveCells
archive_cells_from first [] archive = empty
archive_cells_from first (r ∷ rs) archive = cond (archive == first) r (archive_cells_from (first + 1) rs archive)

-- the archive of a key with a number
abbrev pub archive_cells_in : Series → List ℕ → ℕ → ArchiveCells
archive_cells_in series key archive = archive_cells_from 0 (unwrap_or (lookup (is_at (bytes_cmp key)) series) [])
    archive
