use Rattle.rr_desk.proofs.RuleLemmas.{holds_first}
use Rattle.std.proofs.Common.{rules}
use Rattle.rr_desk.proofs.started.unopened_writer.Goals as goal

pub new-requires-clause-rule : goal.new-requires-clause-rule
new-requires-clause-rule g c = holds_first _ (search rules)
