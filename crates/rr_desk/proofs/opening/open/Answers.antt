use Rattle.std.proofs.Common.{All, ap, subst, sym, ◌∙◌}
use Rattle.rr_desk.specs.KeeperState.{KeeperState}
use Rattle.rr_desk.specs.ReaderState.{HasSeen}
use Rattle.rr_replica.specs.ReplicaWithRoom.{replica_state}
use Rattle.rr_desk.specs.PastHorizon.{past_horizon_of}
use Rattle.rr_desk.proofs.PastHorizonLemmas.{past_at_opening}
use Rattle.rr_desk.proofs.opening.open.Goals as goal

pub returns-in-Ok-clause-seen : goal.returns-in-Ok-clause-seen
returns-in-Ok-clause-seen g c = let h = c.in-Ok.ensures in
    subst (λ (k : KeeperState). All (HasSeen k.desk c.args.replica.schema k.published) c.in-Ok.all.items)
    (sym c.new.ensures) h.seen

pub invariant_of-keeper : goal.invariant_of-keeper
invariant_of-keeper g c = past_at_opening (replica_state c.args.replica) c.in-Ok.book.desk
    ∙ ap past_horizon_of (sym c.new.ensures)
