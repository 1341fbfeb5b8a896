use Rattle.std.proofs.Common.{◌≡◌, map, length}
use Rattle.rr_replica.specs.InMemory.{seen_archive}
use Rattle.rr_replica.proofs.shared_rows.share_archives.Given as goal

abbrev pub invariant-loop-i : goal.invariant-loop-i
invariant-loop-i g l = (length l.archives.items ≡ length l.initial.archives.items)
    × (map (seen_archive g.A.Cells.cells g.A.Cells.row_limit) l.archives.items
    ≡ map (seen_archive g.A.Cells.cells g.A.Cells.row_limit) l.initial.archives.items)
