use Rattle.std.proofs.Common.{◌≡◌, map, take}
use Rattle.rr_replica.specs.InMemory.{seen_archive}
use Rattle.rr_replica.proofs.copies.copy_archives.Given as goal

-- the archives so far are copied
abbrev pub invariant-loop-archive : goal.invariant-loop-archive
invariant-loop-archive g l = map (seen_archive g.A.Cells.cells g.A.Cells.row_limit) l.copies.items
    ≡ map (seen_archive g.A.Cells.cells g.A.Cells.row_limit) (take l.archive-index l.archives)
