use Rattle.std.proofs.Common.{◌≡◌, drop}
use Rattle.rr_schema.specs.Check.{archives_fault}
use Rattle.rr_schema.proofs.schema.check_archives.Given as goal

-- what is left to check decides
abbrev pub invariant-loop-archive : goal.invariant-loop-archive
invariant-loop-archive l = archives_fault l.before (drop l.archive-index l.archives) ≡ archives_fault 0 l.archives
