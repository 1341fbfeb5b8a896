use Rattle.rr_commit.proofs.GroupingLemmas.{only_memory}
use Rattle.rr_commit.proofs.record.record_of.Goals as goal

pub out_of_memory-requires : goal.out_of_memory-requires
out_of_memory-requires c = only_memory c.in_ok-groups.groups.items c.args.cells.now c.in-Err.fault
    c.in_ok-groups.ensures c.requires c.in-Err.ensures.faults
