use Rattle.std.proofs.Common.{[], ◌∷◌, inl, inr, refl}
use Rattle.std.proofs.lemmas.Result.{err_from_is_err_and}
use Rattle.rr_host.proofs.CallsLemmas.{grows_not, grows_on}
use Rattle.rr_node.specs.Shelf.{taken}
use Rattle.rr_node.proofs.round.keep_round.Goals as goal

pub returns-in_err-report-clause-round : goal.returns-in_err-report-clause-round
returns-in_err-report-clause-round g c =
    let e = err_from_is_err_and c.from_residual.result c.from_residual.ensures.1 in
    let p = c.in_err-report.ensures in
    rw e.1 (p.0, [], [], p.1, grows_not _, grows_not _, inl (inr (refl, p.2), refl, refl))

pub returns-in_err-pull_peers-clause-round : goal.returns-in_err-pull_peers-clause-round
returns-in_err-pull_peers-clause-round g c =
    let e = err_from_is_err_and c.from_residual-in_err-pull_peers.result c.from_residual-in_err-pull_peers.ensures.1 in
    let p = rw c.in-Taken.is at c.in_ok-report.ensures in
    let q = c.in_err-pull_peers.ensures in
    let done = rw c.deref.ensures.value at q.4 in
    rw e.1 (
      p.0,
      q.0,
      taken c.in-Taken.report ∷ q.1,
      p.1,
      q.2,
      grows_on _ _ _ _ _ c.lines_taken.ensures q.3,
      inr (_, _, q.1, p.2, inl (refl, done), refl),
    )

pub returns-in_err-save_to-clause-round : goal.returns-in_err-save_to-clause-round
returns-in_err-save_to-clause-round g c =
    let e = err_from_is_err_and c.from_residual-in_err-save_to.result c.from_residual-in_err-save_to.ensures.1 in
    let p = rw c.in-Taken.is at c.in_ok-report.ensures in
    let q = c.in_ok-pull_peers.ensures in
    let s = c.in_err-save_to.ensures in
    let reported = c.end_pulls.ensures in
    let done = rw c.deref.ensures.value at q.4 in
    rw e.1 (
      p.0,
      q.0,
      _,
      p.1,
      q.2,
      grows_on _ _ _ _ _ c.lines_taken.ensures
          (grows_on _ _ _ _ _ q.3 (grows_on _ _ _ _ _ reported.1 s.1)),
      inr (_, _, _, p.2, inr (q.1, s.0, reported.0, done, inr (refl, s.2), refl), refl),
    )

pub returns-clause-round : goal.returns-clause-round
returns-clause-round g c =
    let p = rw c.in-Taken.is at c.in_ok-report.ensures in
    let q = c.in_ok-pull_peers.ensures in
    let s = c.in_ok-save_to.ensures in
    let reported = c.end_pulls.ensures in
    let done = rw c.deref.ensures.value at q.4 in (
      p.0,
      q.0,
      _,
      p.1,
      q.2,
      grows_on _ _ _ _ _ c.lines_taken.ensures
          (grows_on _ _ _ _ _ q.3 (grows_on _ _ _ _ _ reported.1 s.1)),
      inr (_, _, _, p.2, inr (q.1, s.0, reported.0, done, inl (refl, s.2), refl), refl),
    )

pub returns-in_default-clause-round : goal.returns-in_default-clause-round
returns-in_default-clause-round g c =
    let p = rw c.in_default.is at c.in_ok-report.ensures in
    (p.0, [], [], p.1, grows_not _, grows_not _, inl (inl (refl, p.2), refl, refl))
