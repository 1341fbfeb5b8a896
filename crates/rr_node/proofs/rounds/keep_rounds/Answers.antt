use Rattle.std.proofs.Common.{◌<◌}
use Rattle.std.proofs.lemmas.Result.{err_from_is_err_and}
use Rattle.rr_node.specs.Rounds.{Log, and_then, rounds_of}
use Rattle.rr_host.proofs.CallsLemmas.{grows_on}
use Rattle.rr_node.proofs.RoundsLemmas.{rounds_more, rounds_out, rounds_over}
use Rattle.rr_host.proofs.VisitsLemmas.{called_more}
use Rattle.rr_node.proofs.rounds.keep_rounds.Goals as goal

pub returns-in_err-keep_round : goal.returns-in_err-keep_round
returns-in_err-keep_round g c =
    let p = err_from_is_err_and c.from_residual.result c.from_residual.ensures.1 in
    let k = c.loop.invariant in
    let r = c.in_err-keep_round.ensures.round in
    let few : c.loop.counter < rounds_of c.args.config.now = rw c.most_rounds-end.ensures at c.loop-test.true in
    let last : Log = record { visits = r.0; dialed = r.1; shelved = r.2 } in
    rw p.1 (record {
      log = and_then k.log last;
      visited = called_more _ _ _ _ _ k.visited r.3;
      dialed =
          grows_on _ _ _ _ _ k.dialed r.4;
      shelved = grows_on _ _ _ _ _ k.shelved r.5;
      rounds =
          rounds_out _ c.loop.counter c.args.config.now _ _ _ k.log last few k.rounds r.6;
    })

pub returns-then-not-branch : goal.returns-then-not-branch
returns-then-not-branch g c =
    let k = c.loop.invariant in
    let r = c.in_ok-keep_round.ensures.round in
    let few : c.loop.counter < rounds_of c.args.config.now = rw c.most_rounds-end.ensures at c.loop-test.true in
    let last : Log = record { visits = r.0; dialed = r.1; shelved = r.2 } in
    record {
      log = and_then k.log last;
      visited = called_more _ _ _ _ _ k.visited r.3;
      dialed =
          grows_on _ _ _ _ _ k.dialed r.4;
      shelved = grows_on _ _ _ _ _ k.shelved r.5;
      rounds =
          rounds_over _ c.loop.counter c.args.config.now _ _ _ k.log last few k.rounds (rw c.if-not-branch.true at r.6);
    }

pub loop-preserved : goal.loop-preserved
loop-preserved g c =
    let k = c.loop.invariant in
    let r = c.in_ok-keep_round.ensures.round in
    let last : Log = record { visits = r.0; dialed = r.1; shelved = r.2 } in
    record {
      log = and_then k.log last;
      visited = called_more _ _ _ _ _ k.visited r.3;
      dialed = grows_on _ _ _ _ _ k.dialed r.4;
      shelved = grows_on _ _ _ _ _ k.shelved r.5;
      rounds = rounds_more c.loop.counter c.args.config.now _ _ _ k.log last k.rounds (rw c.if-not-branch.false at r.6);
    }
