use Rattle.std.proofs.Common.{length}
use Rattle.rr_commit.proofs.committing.+commit_all.Given as goal

abbrev pub decreases-commit_all : goal.decreases-commit_all
decreases-commit_all g l = length l.records.now
