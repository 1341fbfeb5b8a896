use Rattle.std.proofs.Common.{◌≢◌, ℕ, ◌<◌}
use Rattle.rr_schema.specs.Added.{without}
use Rattle.rr_schema.proofs.added.number_of_added.Given as goal

-- without none of those so far are the archives the others
abbrev pub invariant-loop-number : goal.invariant-loop-number
invariant-loop-number l = (i : ℕ) → i < l.number → l.others ≢ without i l.archives
