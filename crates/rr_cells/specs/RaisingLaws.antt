-- The laws of an addition to a schema.
use Rattle.std.specs.Prelude.{◌≡◌, ◌≢◌, ℕ, List, map, IsTrue}
use Rattle.std.specs.FinMap.{is_sorted}
use Rattle.rr_join.specs.Maps.{trimmed}
use Rattle.rr_schema.specs.declared.added.Addition.{Addition}
use Rattle.rr_schema.specs.declared.added.Addition.TheVariants.{Archive}
use Rattle.rr_schema.specs.declared.archive.ArchiveSpec.{ArchiveSpec}
use Rattle.rr_schema.specs.Schema.{Layout}
use Rattle.rr_schema.specs.Added.{HasAdded, IsAddition, older}
use Rattle.rr_cells.specs.CellNames.{cell_name_cmp, is_live}
use Rattle.rr_cells.specs.Samples.{Mark}
use Rattle.rr_cells.specs.Knowledge.{Knowledge, knows, live}
use Rattle.rr_cells.specs.World.{World, IsClosed}
use Rattle.rr_cells.specs.CellBounds.{NamedCell, IsCellOf}
use Rattle.rr_cells.specs.Cells.{Cells}
use Rattle.rr_cells.specs.Joins.{join, join_cells}
use Rattle.rr_cells.specs.State.{cells_of_knowledge}
use Rattle.rr_cells.specs.Raising.{with_archive, place_for, raised_knowledge, raised_cell, raised_cells}

-- a knowledge without gaps has none after the addition
abbrev pub RaisedIsClosed : Type 0
RaisedIsClosed = (a : Addition) (s : Layout) (w : World) (k : Knowledge) → IsAddition s a → IsClosed (older s a) w k
    → IsClosed s w (raised_knowledge a k)

-- the same marks are live
abbrev pub RaisedIsLive : Type 0
RaisedIsLive = (a : Addition) (s : Layout) (k : Knowledge) → IsAddition s a
    → live s (raised_knowledge a k) ≡ raised_knowledge a (live (older s a) k)

-- and no known mark is in the archive that was added
abbrev pub NoneInTheAdded : Type 0
NoneInTheAdded = (i : ℕ) (k : Knowledge) (m : Mark) → IsTrue (knows (raised_knowledge (Archive i) k) m) → m.archive ≢ i

-- a raised knowledge makes the cells that it made before, with the numbers of their archives raised
abbrev pub RaisedMakesRaisedCells : Type 0
RaisedMakesRaisedCells = (a : Addition) (s : Layout) (k : Knowledge) → IsAddition s a
    → cells_of_knowledge s (raised_knowledge a k) ≡ raised_cells a (cells_of_knowledge (older s a) k)

-- a cell of the older schema, raised, is one of the schema
abbrev pub RaisedIsCell : Type 0
RaisedIsCell = (a : Addition) (s : Layout) (e : NamedCell) → IsAddition s a → IsCellOf (older s a) e
    → IsCellOf s (raised_cell a e)

-- trimming cells, or joining them, and then raising them is the same as raising them first
abbrev pub TrimmedIsRaised : Type 0
TrimmedIsRaised = (a : Addition) (s : Layout) (m : Cells) → IsAddition s a
    → trimmed (is_live s) (raised_cells a m) ≡ raised_cells a (trimmed (is_live (older s a)) m)

abbrev pub JoinIsRaised : Type 0
JoinIsRaised = (a : Addition) (s : Layout) (m n : Cells) → IsAddition s a
    → join s (raised_cells a m) (raised_cells a n) ≡ raised_cells a (join (older s a) m n)

-- so it is for joining a list of cells, in order
abbrev pub JoinCellsIsRaised : Type 0
JoinCellsIsRaised = (a : Addition) (s : Layout) (m : Cells) (es : List NamedCell) → IsAddition s a
    → join_cells s (raised_cells a m) (map (raised_cell a) es) ≡ raised_cells a (join_cells (older s a) m es)

-- and raised cells are in order exactly if they were before
abbrev pub OrderIsKept : Type 0
OrderIsKept = (a : Addition) (es : List NamedCell)
    → is_sorted cell_name_cmp (map (raised_cell a) es) ≡ is_sorted cell_name_cmp es

-- with an archive inserted, a schema has one archive more, under the number of its place
abbrev pub UpgradeAdds : Type 0
UpgradeAdds = (t : Layout) (a : ArchiveSpec) → HasAdded (place_for a t.archives)
    (record { step = t.step; archives = with_archive a t.archives }) t
