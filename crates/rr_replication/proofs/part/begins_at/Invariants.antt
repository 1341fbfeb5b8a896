use Rattle.std.proofs.Common.{◌≡◌, ◌≤◌, drop, IfSome}
use Rattle.rr_replication.specs.Part.{begins_at}
use Rattle.rr_replication.proofs.PartLemmas.{joined}
use Rattle.rr_replication.proofs.part.begins_at.Given as goal

-- the later of what was found so far and of what is left is that of all
abbrev pub invariant-loop-file : goal.invariant-loop-file
invariant-loop-file l = record {
  begin : joined l.begin (begins_at (drop l.file-index l.files) l.from) ≡ begins_at l.files l.from;
  within : IfSome l.begin (λ begin. begin ≤ l.from);
}
