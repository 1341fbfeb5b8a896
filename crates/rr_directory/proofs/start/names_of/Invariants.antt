use Rattle.std.proofs.Common.{◌≡◌, take}
use Rattle.rr_directory.specs.Start.{names_of}
use Rattle.rr_directory.proofs.start.names_of.Given as goal

abbrev pub invariant-loop-offset : goal.invariant-loop-offset
invariant-loop-offset l = l.files.items ≡ names_of l.fn.checkpoint (take l.offset-index l.journals)
