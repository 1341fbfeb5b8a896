use Rattle.std.proofs.Common.{◌≡◌, map, take}
use Rattle.std.specs.FinMap as fin
use Rattle.rr_replica.specs.Archives.{Each}
use Rattle.rr_replica.proofs.archives.empty_archives.Given as goal

abbrev pub invariant-loop-archive : goal.invariant-loop-archive
invariant-loop-archive g l = (map g.A.Cells.row_limit l.archives.items
    ≡ map (λ a. a.rows) (take l.archive-index l.schema.archives))
    × Each (λ i a. g.A.Cells.cells a ≡ fin.empty) l.archives.items
