use Rattle.std.proofs.Common.{◌++◌, ap, sym}
use Rattle.std.proofs.lemmas.Result.{IfOk-weaker}
use Rattle.rr_replica.specs.ReplicaWithRoom.{replica_state}
use Rattle.rr_changes.specs.Tracking.{AreChangedSeries}
use Rattle.rr_desk.specs.KeeperState.{KeeperState}
use Rattle.rr_desk.specs.Writers.{all_ops}
use Rattle.rr_desk.specs.Written.{CoverChanges}
use Rattle.rr_desk.proofs.KeeperStateLemmas.{own-state}
use Rattle.rr_desk.proofs.UnwrittenLemmas.{unwritten-covered}
use Rattle.rr_desk.proofs.copies.Copies.changed_series.Goals as goal

pub returns : goal.returns
returns g c =
    let k = c.self.inside in
    let s = c.args.self.now in
    IfOk-weaker c.series.result (λ series. AreChangedSeries k.own.keys k.unwritten.tracker.times series.items)
    (λ series. CoverChanges s series.items)
    (λ series changed. unwritten-covered s (replica_state k.own) k.own.keys k.unwritten (all_ops k.writer) series.items
    c.self.invariant.2 (own-state _ _ _ _ _ _ _ _ _ _ _ c.self.invariant.0 c.self.view_is)
    (ap (λ (z : KeeperState). z.published ++ z.pending) (sym c.self.view_is))
    (ap (λ (z : KeeperState). z.written) (sym c.self.view_is)) changed c.schema-schema.ensures.holds)
    c.series.ensures
