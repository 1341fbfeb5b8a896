use Rattle.std.proofs.Common.{rules}
use Rattle.rr_node.proofs.connection.Connection.count.Goals as goal

pub returns-in_ok-push_refusal-in-Refused-clause-report : goal.returns-in_ok-push_refusal-in-Refused-clause-report
returns-in_ok-push_refusal-in-Refused-clause-report c = search rules
