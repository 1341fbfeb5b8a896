use Rattle.std.proofs.Common.{rules}
use Rattle.rr_process.proofs.orders.obey_order.Goals as goal

pub returns-in_ok-refused-in-CheckLines-clause-ending : goal.returns-in_ok-refused-in-CheckLines-clause-ending
returns-in_ok-refused-in-CheckLines-clause-ending g c = search rules
