use Rattle.std.proofs.Common.{[], List}
use Rattle.std.specs.List.{flat_map, range_with_len}
use Rattle.rr_cells.specs.CellBounds.{NamedCell}
use Rattle.rr_changes.specs.Listing.{changes_in}
use Rattle.rr_desk.specs.KeeperState.{cells_of}
use Rattle.rr_commit.specs.Packing.{Packs}
use Rattle.rr_commit.proofs.packing.Packing.add_series.Given as goal

-- the changes in the archives so far are packed
abbrev pub invariant-loop-archive : goal.invariant-loop-archive
invariant-loop-archive g l = (done : List (List NamedCell)) → Packs l.fn.self done [] 0
    → Packs l.self done
    (flat_map (changes_in l.keeper.schema (cells_of l.keeper) l.series) (range_with_len 0 l.archive)) 0
