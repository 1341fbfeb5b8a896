use Rattle.std.proofs.Common.{◌≡◌, map, take, int_cmp}
use Rattle.std.specs.Ordering.{flip_args}
use Rattle.rr_archive.specs.declared.entry.Entry.{Entry}
use Rattle.rr_join.specs.Maps.{greatest}
use Rattle.rr_fetch.proofs.consolidation.least.Given as goal

abbrev pub invariant-loop-entry : goal.invariant-loop-entry
invariant-loop-entry l = l.least ≡ greatest (flip_args int_cmp)
    (map (λ (e : Entry). e.contribution.min) (take l.entry-index l.row))
