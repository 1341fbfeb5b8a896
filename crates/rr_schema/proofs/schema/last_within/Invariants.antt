use Rattle.std.proofs.Common.{◌≡◌, drop}
use Rattle.rr_schema.specs.Schema.{last_within}
use Rattle.rr_schema.proofs.schema.last_within.Given as goal

-- the archives that are left give the same number
abbrev pub invariant-loop-archive : goal.invariant-loop-archive
invariant-loop-archive l = record {
  counted : l.next ≡ l.archive-index;
  same : last_within l.step l.resolution l.found l.next (drop l.archive-index l.archives)
      ≡ last_within l.step l.resolution 0 0 l.archives;
}
