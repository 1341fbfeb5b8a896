use Rattle.std.proofs.Common.{◌≡◌}
use Rattle.rr_reactor.proofs.connection.Connection.move_on.Given as goal

abbrev pub invariant-loop : goal.invariant-loop
invariant-loop g l = l.self.out ≡ l.fn.self.out
