use Rattle.std.proofs.Common.{◌≡◌, ◌≤◌, ◌*◌, take}
use Rattle.rr_text.specs.declared.limits.TheConstants.{MAX_NUMBER}
use Rattle.rr_fetch.specs.Consolidation.{total_of, count_of, IsBounded}
use Rattle.rr_fetch.proofs.sum.sum_of.Given as goal

-- the sum so far is that of the entries so far
abbrev pub invariant-loop-entry : goal.invariant-loop-entry
invariant-loop-entry l = record {
  count : l.sum.count ≡ count_of (take l.entry-index l.row);
  total : l.sum.total ≡ total_of (take l.entry-index l.row);
  few : l.sum.count ≤ l.entry-index * MAX_NUMBER;
  bounded : IsBounded l.sum.count l.sum.total;
}
