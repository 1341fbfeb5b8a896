use Rattle.std.proofs.Common.{inl, inr, refl}
use Rattle.std.proofs.lemmas.Result.{err_from_is_err_and}
use Rattle.rr_host.proofs.CallsLemmas.{grows_on}
use Rattle.rr_node.proofs.EndsLemmas.{pull_over}
use Rattle.rr_node.proofs.peers.pull_from.Goals as goal

pub returns-in_err-pulled : goal.returns-in_err-pulled
returns-in_err-pulled g c =
    let p = err_from_is_err_and c.from_residual.result c.from_residual.ensures.1 in
    let e = c.in_err-pulled.ensures in
    let opened = grows_on _ _ _ _ _ (c.is_due.ensures.due c.if-not-is_due.false) c.in-Some.ensures.reached in
    rw (p.1, p.2) (pull_over _ _ _ _ _ _ _ _ _ opened c.take_back.ensures
    (record { read = e.read_failed; write = e.write_failed }) e.stopped)

pub returns-in_default : goal.returns-in_default
returns-in_default g c =
    let opened = grows_on _ _ _ _ _ (c.is_due.ensures.due c.if-not-is_due.false)
    (c.open.ensures.unreached c.in_default.is) in
    (_, opened, inr (inl (refl, refl, refl)))

pub returns : goal.returns
returns g c =
    let opened = grows_on _ _ _ _ _ (c.is_due.ensures.due c.if-not-is_due.false) c.in-Some.ensures.reached in
    (_, grows_on _ _ _ _ _ opened c.take_back.ensures, inr (inr (_, _, refl, c.in_ok-pulled.ensures.pulled)))
