-- The laws of merging and joining the cells of one archive.
use Rattle.std.specs.Prelude.{◌≡◌, ℕ, ◌<◌, ◌≤◌, ◌*◌, IsTrue, List, length, Contains}
use Rattle.std.specs.FinMap.{contains_key, len}
use Rattle.rr_archive.specs.CellSlots.{CellSlot}
use Rattle.rr_archive.specs.Cells.{ArchiveCells, merge_archive_cells, join_archive_cells, IsTrimmed}

abbrev pub MergeIsCommutative : Type 0
MergeIsCommutative = (m n : ArchiveCells) → merge_archive_cells m n ≡ merge_archive_cells n m

abbrev pub MergeIsAssociative : Type 0
MergeIsAssociative = (l m n : ArchiveCells) → merge_archive_cells (merge_archive_cells l m) n
    ≡ merge_archive_cells l (merge_archive_cells m n)

abbrev pub MergeIsIdempotent : Type 0
MergeIsIdempotent = (m : ArchiveCells) → merge_archive_cells m m ≡ m

abbrev pub JoinIsCommutative : Type 0
JoinIsCommutative = (rows : ℕ) (m n : ArchiveCells) → 0 < rows
    → join_archive_cells rows m n ≡ join_archive_cells rows n m

abbrev pub JoinIsAssociative : Type 0
JoinIsAssociative = (rows : ℕ) (l m n : ArchiveCells) → 0 < rows
    → join_archive_cells rows (join_archive_cells rows l m) n ≡ join_archive_cells rows l (join_archive_cells rows m n)

abbrev pub JoinIsIdempotent : Type 0
JoinIsIdempotent = (rows : ℕ) (m : ArchiveCells) → 0 < rows → IsTrimmed rows m → join_archive_cells rows m m ≡ m

-- the cells that a join gives are trimmed
abbrev pub JoinIsTrimmed : Type 0
JoinIsTrimmed = (rows : ℕ) (m n : ArchiveCells) → 0 < rows → IsTrimmed rows (join_archive_cells rows m n)

-- there are at most as many live cells as the rows times the origins that they are of
abbrev pub CellsAreFew : Type 0
CellsAreFew = (rows : ℕ) (origins : List ℕ) (m : ArchiveCells) → IsTrimmed rows m
    → ((p : CellSlot) → IsTrue (contains_key m p) → Contains origins p.origin) → len m ≤ rows * length origins
