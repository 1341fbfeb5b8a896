use Rattle.std.proofs.Common.{◌≡◌, map, take, int_cmp}
use Rattle.rr_archive.specs.declared.entry.Entry.{Entry}
use Rattle.rr_join.specs.Maps.{greatest}
use Rattle.rr_fetch.proofs.consolidation.greatest.Given as goal

abbrev pub invariant-loop-entry : goal.invariant-loop-entry
invariant-loop-entry l = l.greatest ≡ greatest int_cmp
    (map (λ (e : Entry). e.contribution.max) (take l.entry-index l.row))
