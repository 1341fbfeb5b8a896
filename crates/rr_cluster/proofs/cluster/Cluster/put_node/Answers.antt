use Rattle.std.proofs.Common.{refl}
use Rattle.rr_cluster.proofs.CommandsLemmas.Node.{represents_with_node}
use Rattle.rr_cluster.proofs.MeaningLemmas.{inserted}
use Rattle.rr_cluster.proofs.cluster.Cluster.put_node.Goals as goal

pub returns : goal.returns
returns g c = λ m is shared.
    let old = c.args.self.now in
    let nodes = rw c.in_ok-name.ensures.items at (inserted old.nodes c.insert.new.self c.in_ok-name.name c.args.replica
    c.in_ok-insert.ensures.entries) in
    let origins = rw (c.get-number.ensures.same, c.origin.ensures) at c.in_ok-insert-2.ensures.updates.0 in (
      _,
      refl,
      represents_with_node old _ m c.args.name.now c.args.replica is refl refl refl refl refl nodes shared
          origins,
    )
