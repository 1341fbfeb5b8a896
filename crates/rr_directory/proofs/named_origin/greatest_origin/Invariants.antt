use Rattle.std.proofs.Common.{◌++◌, take, option_to_list}
use Rattle.rr_directory.specs.Start.{IsGreatest}
use Rattle.rr_directory.proofs.named_origin.greatest_origin.Given as goal

abbrev pub invariant-loop-origin : goal.invariant-loop-origin
invariant-loop-origin l = IsGreatest (option_to_list l.fn.recorded ++ take l.origin-index l.named) l.greatest
