-- What holds of a walk over cells.
use Rattle.std.specs.Prelude.{ℤ, List, Option, IfSome}
use Rattle.rr_archive.specs.declared.entry.Entry.{Entry}
use Rattle.rr_archive.specs.Cells.{ArchiveCells}
use Rattle.rr_cells.specs.Cells.{Cells}
use Rattle.rr_replica.specs.declared.next.KeyArchive.{KeyArchive}
use Rattle.rr_replica.specs.Runs.{AreInTurn, IsNextOfAll}

module _ {X : Type 0} where
  -- an archive of these cells, and a run of the archive
  pub record IsReadFrom (seen : X → ArchiveCells) (cells : Cells) (run : List (ℤ × Entry)) (own : KeyArchive X)
      : Type 0 where
    pub next : IsNextOfAll cells own.key.now own.number (seen own.archive.now)
    pub in_turn : AreInTurn (seen own.archive.now) run

  -- if a walk is in an archive, that is one of these cells, and the run is one of the archive
  abbrev pub IsWalkOver : (X → ArchiveCells) → Cells → Option (KeyArchive X) → List (ℤ × Entry) → Type 0
  IsWalkOver seen cells own run = IfSome own (IsReadFrom seen cells run)
