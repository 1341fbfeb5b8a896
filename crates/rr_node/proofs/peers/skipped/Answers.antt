use Rattle.std.proofs.Common.{rules}
use Rattle.rr_node.proofs.peers.skipped.Goals as goal

pub returns-in-Err : goal.returns-in-Err
returns-in-Err c = search rules
