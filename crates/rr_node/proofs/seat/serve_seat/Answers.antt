use Rattle.std.proofs.Common.{◌≡◌, ◌<◌, ◌++◌, true, false, rules}
use Rattle.std.proofs.lemmas.Result.{err_from_is_err_and}
use Rattle.rr_node.specs.Seats.{visits_of}
use Rattle.rr_host.proofs.VisitsLemmas.{called_more}
use Rattle.rr_node.proofs.SeatsLemmas.{seat_out, seat_over, visits_more}
use Rattle.rr_node.proofs.seat.serve_seat.Goals as goal

pub returns-in_err-serve_visit : goal.returns-in_err-serve_visit
returns-in_err-serve_visit g c =
    let p = err_from_is_err_and c.from_residual.result c.from_residual.ensures.1 in
    let so_far = c.loop.invariant in
    let last = c.in_err-serve_visit.ensures in
    let few : c.loop.counter < visits_of c.args.visits = rw c.most_visits-end.ensures at c.loop-test.true in
    rw (p.1, p.2) (
      so_far.calls ++ last.0,
      called_more _ _ _ so_far.calls last.0 so_far.made last.1,
      seat_out _ c.loop.counter so_far.calls last.0 _ _ _ _ few so_far.visits last.2,
    )

pub returns-then-not-branch : goal.returns-then-not-branch
returns-then-not-branch g c =
    let so_far = c.loop.invariant in
    let over : c.in_ok-serve_visit.field-0 ≡ false = search rules in
    let last = rw over at c.in_ok-serve_visit.ensures in
    let few : c.loop.counter < visits_of c.args.visits = rw c.most_visits-end.ensures at c.loop-test.true in (
      so_far.calls ++ last.0,
      called_more _ _ _ so_far.calls last.0 so_far.made last.1,
      seat_over _ c.loop.counter so_far.calls last.0 _ _ _ few so_far.visits last.2,
    )

pub loop-preserved : goal.loop-preserved
loop-preserved g c =
    let so_far = c.loop.invariant in
    let going : c.in_ok-serve_visit.field-0 ≡ true = search rules in
    let last = rw going at c.in_ok-serve_visit.ensures in
    record {
      calls = so_far.calls ++ last.0;
      made = called_more _ _ _ so_far.calls last.0 so_far.made last.1;
      visits = visits_more c.loop.counter so_far.calls last.0 _ _ _ so_far.visits last.2;
    }
