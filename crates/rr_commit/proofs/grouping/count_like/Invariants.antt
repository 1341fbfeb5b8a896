use Rattle.std.proofs.Common.{◌≡◌, All, take}
use Rattle.rr_commit.specs.Grouping.{IsLike}
use Rattle.rr_commit.proofs.grouping.count_like.Given as goal

-- all so far are alike
abbrev pub invariant-loop-other : goal.invariant-loop-other
invariant-loop-other l = record {
  count : l.count ≡ l.other-index;
  like : All (IsLike l.first) (take l.other-index l.others);
}
