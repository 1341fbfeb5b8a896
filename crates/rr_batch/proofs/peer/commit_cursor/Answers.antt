use Rattle.std.proofs.Common.{rules}
use Rattle.rr_batch.proofs.PeerLemmas.{only_memory}
use Rattle.rr_batch.proofs.peer.commit_cursor.Goals as goal

pub out_of_memory-requires : goal.out_of_memory-requires
out_of_memory-requires g c = only_memory c.args.read.now c.in-Err.fault (search rules) (search rules)
    c.in-Err.ensures.faults
