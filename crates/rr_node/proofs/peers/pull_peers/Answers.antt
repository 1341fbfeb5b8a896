use Rattle.std.proofs.Common.{[], ◌++◌, map, nat_lt, sym, ◌+◌}
use Rattle.std.proofs.Math.ListN.{drop_of_length-le}
use Rattle.std.proofs.lemmas.Result.{err_from_is_err_and}
use Rattle.std.specs.String.{string_bytes}
use Rattle.rr_node.specs.Peers.{reported_of_peer}
use Rattle.rr_host.proofs.CallsLemmas.{grows_not, grows_on}
use Rattle.rr_node.proofs.PeersLemmas.{all_past, next_left, one_past, stops_here}
use Rattle.rr_node.proofs.peers.pull_peers.Goals as goal

pub loop-place-init : goal.loop-place-init
loop-place-init g c = ([], [], grows_not _, grows_not _, λ whole new d t h. h)

pub returns-in_err-fault : goal.returns-in_err-fault
returns-in_err-fault g c =
    let k = c.loop-place.invariant in
    let p = c.pull_from-pulled.ensures in
    let left = next_left string_bytes c.args.peers.now c.loop-place.place c.index-peers-place.result c.deref.result.now
    c.loop-place-test.true c.index-peers-place.is c.deref.ensures in
    let e = err_from_is_err_and c.from_residual.result c.from_residual.ensures.1 in
    rw e.1 (
      k.0 ++ p.0,
      k.1,
      grows_on _ _ _ _ _ k.2 p.1,
      k.3,
      stops_here _ _ _ _ _ _ _ k.0 p.0 k.1 (rw left at k.4) (rw c.in_err-fault.ensures.memory at p.2),
    )

pub loop-place-preserved : goal.loop-place-preserved
loop-place-preserved g c =
    let k = c.loop-place.invariant in
    let p = c.pull_from-pulled.ensures in
    let left = next_left string_bytes c.args.peers.now c.loop-place.place c.index-peers-place.result c.deref.result.now
    c.loop-place-test.true c.index-peers-place.is c.deref.ensures in
    let ended = rw (sym c.in_ok-fault.ensures.skipped.0) at p.2 in
    let parsed = rw (c.next_number-next.ensures, c.next_number.ensures) at c.tell.ensures in (
      k.0 ++ p.0,
      k.1 ++ reported_of_peer (c.loop-place.place + 1)
          (nat_lt c.loop-place.keeper.next c.pull_from-pulled.new.keeper.next)
          c.in_ok-fault.fault,
      grows_on _ _ _ _ _ k.2 p.1,
      grows_on _ _ _ _ _ k.3 parsed,
      one_past _ _ _ _ _ _ _ k.0 p.0 k.1 c.in_ok-fault.fault (rw left at k.4) c.in_ok-fault.ensures.skipped.1 ended,
    )

pub returns : goal.returns
returns g c =
    let k = c.loop-place.invariant in
    let none = drop_of_length-le c.args.peers.now c.loop-place-test.false in (
      k.0,
      k.1,
      k.2,
      k.3,
      all_past (map string_bytes c.args.peers.now) c.args.keeper.now (c.loop-place.place + 1)
          c.loop-place.keeper k.0 k.1 (rw none at k.4),
    )
