use Rattle.std.proofs.Common.{◌≡◌, ◌+◌, drop}
use Rattle.rr_cells.specs.Raising.{place_for}
use Rattle.rr_cluster.proofs.commands.upgrade.place_for.Given as goal

-- the archives so far have no more steps
abbrev pub invariant-loop-other : goal.invariant-loop-other
invariant-loop-other l = record {
  counted : l.place ≡ l.other-index;
  same : place_for l.archive l.archives ≡ l.other-index + place_for l.archive (drop l.other-index l.archives);
}
