use Rattle.rr_batch.proofs.OriginLemmas.{only_memory}
use Rattle.rr_batch.proofs.origin.commit_origin.Goals as goal

pub out_of_memory-requires : goal.out_of_memory-requires
out_of_memory-requires g c = only_memory c.args.origin c.in-Err.fault c.in-Err.ensures.faults
