use Rattle.std.proofs.Common.{rules}
use Rattle.rr_words.proofs.words.node_order.Goals as goal

pub returns : goal.returns
returns c = search rules
