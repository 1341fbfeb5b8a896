use Rattle.std.proofs.Common.{List}
use Rattle.rr_node.specs.Fetches.{sight}
use Rattle.rr_node.specs.Seats.{AreVisits}
use Rattle.rr_host.specs.Visits.{Call, HasCalled}
use Rattle.rr_node.proofs.seat.serve_seat.Given as goal

-- one visit at each turn
abbrev pub invariant-loop : goal.invariant-loop
invariant-loop g l = record {
  calls : List Call;
  made : HasCalled (g.V.Visits.calls l.initial.seat.visits) (g.V.Visits.calls l.seat.visits) calls;
  visits : AreVisits l.counter calls (sight l.initial.seat.reader (g.G.Gate.calls l.initial.seat.gate))
      (sight l.seat.reader (g.G.Gate.calls l.seat.gate));
}
