use Rattle.rr_host.specs.Calls.{Grows}
use Rattle.rr_node.specs.Rounds.{AreRounds, Log, post}
use Rattle.rr_host.specs.Visits.{HasCalled}
use Rattle.rr_node.proofs.rounds.keep_rounds.Given as goal

-- one round at each turn
abbrev pub invariant-loop : goal.invariant-loop
invariant-loop g l = record {
  log : Log;
  visited : HasCalled (g.V.Visits.calls l.initial.lines) (g.V.Visits.calls l.lines) log.visits;
  dialed : Grows (g.D.Dial.calls l.initial.dial) (g.D.Dial.calls l.dial) log.dialed;
  shelved : Grows (g.S.Shelf.calls l.initial.shelf) (g.S.Shelf.calls l.shelf) log.shelved;
  rounds : AreRounds l.counter l.config (post l.initial.keeper (g.C.Clock.given l.initial.clock))
      (post l.keeper (g.C.Clock.given l.clock)) log;
}
