-- The cells of an archive that may be missing.
use Rattle.std.specs.Prelude.{Option, None, Some}
use Rattle.std.specs.FinMap.{empty}
use Rattle.rr_archive.specs.Cells.{ArchiveCells}

-- a missing one has none
abbrev pub lent_cells : {X : Type 0} → (X → ArchiveCells) → Option X → ArchiveCells
lent_cells cells None = empty
lent_cells cells (Some a) = cells a
