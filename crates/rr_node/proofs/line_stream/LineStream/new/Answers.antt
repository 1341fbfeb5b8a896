use Rattle.rr_node.proofs.AmongLemmas.{IsFresh-new}
use Rattle.rr_node.proofs.line_stream.LineStream.new.Goals as goal

pub returns-clause-fresh : goal.returns-clause-fresh
returns-clause-fresh c = IsFresh-new _ _ c.new.ensures
