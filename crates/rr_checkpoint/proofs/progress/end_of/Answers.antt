use Rattle.rr_checkpoint.proofs.TextLemmas.{only_memory}
use Rattle.rr_checkpoint.proofs.progress.end_of.Goals as goal

pub out_of_memory-requires : goal.out_of_memory-requires
out_of_memory-requires c = only_memory c.args.cells c.in-Err.fault c.in-Err.ensures.faults
