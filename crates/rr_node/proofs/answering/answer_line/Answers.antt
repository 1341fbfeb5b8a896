use Rattle.std.proofs.Common.{rules}
use Rattle.rr_node.proofs.answering.answer_line.Goals as goal

pub returns-in-Err : goal.returns-in-Err
returns-in-Err g c = search rules
