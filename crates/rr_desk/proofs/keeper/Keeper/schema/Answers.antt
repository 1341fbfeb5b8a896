use Rattle.std.proofs.Common.{subst, ap, ◌∙◌}
use Rattle.rr_cells.specs.ReplicaState.{IsReplicaState}
use Rattle.rr_desk.specs.KeeperState.{own_replica}
use Rattle.rr_desk.proofs.keeper.Keeper.schema.Goals as goal

pub returns-clause-holds : goal.returns-clause-holds
returns-clause-holds g c = subst IsReplicaState (c.replica.ensures.state ∙ ap own_replica c.self.view_is)
    c.schema.ensures.holds
