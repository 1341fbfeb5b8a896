use Rattle.std.proofs.Common.{[], map, take}
use Rattle.rr_changes.specs.Listing.{changes_of}
use Rattle.rr_desk.specs.KeeperState.{cells_of}
use Rattle.rr_commit.specs.Packing.{Packs}
use Rattle.rr_commit.proofs.changes.change_records.Given as goal

-- the series so far are packed
abbrev pub invariant-loop-own : goal.invariant-loop-own
invariant-loop-own g l =
    Packs l.packing (map (changes_of l.keeper.schema (cells_of l.keeper)) (take l.own-index l.series)) [] 0
