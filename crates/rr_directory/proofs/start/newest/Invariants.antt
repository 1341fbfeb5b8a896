use Rattle.std.proofs.Common.{take}
use Rattle.rr_directory.specs.Start.{IsNewest}
use Rattle.rr_directory.proofs.start.newest.Given as goal

abbrev pub invariant-loop-name : goal.invariant-loop-name
invariant-loop-name l = IsNewest (take l.name-index l.names) l.newest
