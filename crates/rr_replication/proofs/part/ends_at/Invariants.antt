use Rattle.std.proofs.Common.{◌≡◌, ◌<◌, drop}
use Rattle.rr_replication.specs.Part.{ends_at}
use Rattle.rr_replication.proofs.part.ends_at.Given as goal

-- the sooner of what was found so far and of what is left is that of all
abbrev pub invariant-loop-file : goal.invariant-loop-file
invariant-loop-file l = record {
  end : ends_at (drop l.file-index l.files) l.until l.from ≡ ends_at l.files l.end l.from;
  behind : l.from < l.until;
}
