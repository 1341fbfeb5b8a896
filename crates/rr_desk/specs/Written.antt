-- What a keeper gives to be written.
use Rattle.std.specs.Prelude.{◌≡◌, List}
use Rattle.std.specs.FinMap.{retain_keys}
use Rattle.rr_schema.specs.Schema.{Layout}
use Rattle.rr_cells.specs.Cells.{Cells}
use Rattle.rr_cells.specs.Joins.{join_cells}
use Rattle.rr_changes.specs.declared.changed_series.ChangedSeries.{ChangedSeries}
use Rattle.rr_changes.specs.Changes.{is_within}
use Rattle.rr_changes.specs.Listing.{changes_of_all}
use Rattle.rr_changes.specs.Updates.{Holds, IsUpdate}
use Rattle.rr_desk.specs.KeeperState.{KeeperState, cells_of, written_cells}

-- what is held now has all that was written, and the cells of these series, in the slots of their ranges, are an update
-- since then: joining the changes of these series, archive by archive, to what was written makes what is held now
pub record IsUpdateOf (s : Layout) (written now : Cells) (series : List ChangedSeries) : Type 0 where
  pub holds : Holds s now written
  pub update : IsUpdate written now (retain_keys now (is_within s series))
  pub makes : join_cells s written (changes_of_all s now series) ≡ now

-- the cells of these series are an update of a keeper since what is written
abbrev pub CoverChanges : KeeperState → List ChangedSeries → Type 0
CoverChanges k series = IsUpdateOf k.schema (written_cells k) (cells_of k) series
